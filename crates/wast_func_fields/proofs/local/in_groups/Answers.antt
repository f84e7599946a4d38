use Rattle.std.proofs.Common.{codes}
use Rattle.wast_field_syntax.specs.Grammar.{many}
use Rattle.wast_field_syntax.specs.State.{ahead}
use Rattle.wast_signatures.specs.TypeSyntax.{locals}
use Rattle.wast_signatures.specs.SignatureViews.{param_tree}
use Rattle.wast_signatures.proofs.Lists.{joined_read}
use Rattle.wast_field_syntax.specs.FuncSyntax.{local_starts}
use Rattle.wast_func_fields.proofs.local.in_groups.Goals as goal

pub returns-clause-read : goal.returns-clause-read
returns-clause-read c = joined_read param_tree (λ g. g.value.items.items) c.in_ok-groups.groups.items c.in_ok-params.params.items (many local_starts (locals (codes "local"))).reads (ahead c.args.parser.now) (ahead c.list_of.new.parser) c.in_ok-groups.ensures.read c.in_ok-params.ensures
