use Rattle.std.proofs.Common.{map, ◌∙◌}
use Rattle.wast_parser.specs.Identifiers.{identifier_tree}
use Rattle.wast_core.specs.ModuleFieldViews.{field_tree}
use Rattle.wast_bound.proofs.TypesMeant.{member_numbered, member_named}
use Rattle.wast_bound.proofs.types.is_member.Goals as goal

pub returns-in-Num : goal.returns-in-Num
returns-in-Num c = rw (c.in-Num.is) (c.is_member_at.ensures ∙ member_numbered (map field_tree c.args.fields.now) _ (identifier_tree c.args.id.now).0)

pub returns-in-Id : goal.returns-in-Id
returns-in-Id c = rw (c.in-Id.is) (c.is_member_of.ensures ∙ member_named (map field_tree c.args.fields.now) _ (identifier_tree c.args.id.now).0)
