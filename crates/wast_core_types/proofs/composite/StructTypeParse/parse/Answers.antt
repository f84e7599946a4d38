use Rattle.std.proofs.Common.{[], ◌∷◌, codes}
use Rattle.wast_parser.specs.Look.{this_group}
use Rattle.wast_parser.specs.Grammar.{many}
use Rattle.wast_signatures.specs.TypeSyntax.{fields}
use Rattle.wast_parser.specs.State.{ahead}
use Rattle.wast_signatures.specs.SignatureViews.{struct_field_tree}
use Rattle.wast_signatures.proofs.Lists.{joined_read}
use Rattle.wast_core_types.proofs.composite.StructTypeParse.parse.Goals as goal

pub returns-clause-read : goal.returns-clause-read
returns-clause-read c = joined_read struct_field_tree (λ g. g.value.items.items) c.in_ok-groups.groups.items c.in_ok-fields.fields.items (many (this_group (codes "field") ∷ []) fields).reads (ahead c.args.parser.now) (ahead c.list_of.new.parser) c.in_ok-groups.ensures.read c.in_ok-fields.ensures
