use Rattle.std.proofs.Common.{sym}
use Rattle.std.specs.Prelude.{option_map}
use Rattle.wast_parser.specs.Identifiers.{identifier_tree, index_tree}
use Rattle.wast_bound.proofs.Unnamed.{unnamed}
use Rattle.wast_bound.proofs.locals.is_param_of.Goals as goal

pub returns-in-None : goal.returns-in-None
returns-in-None c = λ s. rw (c.in-None.is) (sym (unnamed s (identifier_tree c.args.id.now).0 (option_map index_tree c.args.ty.now.index)))
