use Rattle.std.proofs.Common.{◌∙◌}
use Rattle.wast_parser.specs.Identifiers.{identifier_tree}
use Rattle.wast_bound.proofs.Scopes.{item_known}
use Rattle.wast_bound.proofs.outside.OutsideKnown.has.Goals as goal

pub returns-in_default : goal.returns-in_default
returns-in_default g c =
    c.tells.ensures ∙ item_known (g.H.Holds.fields c.args.self.now.holder.now) (identifier_tree c.args.id.now).0 c.args.space c.in_default.not-Labels c.in_default.not-Locals c.in_default.not-Fields
