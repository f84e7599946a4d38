use Rattle.std.proofs.Common.{subst, sym}
use Rattle.wast_signatures.specs.State.{ahead}
use Rattle.wast_signatures.specs.Reading.{Gives}
use Rattle.wast_typed_operands.specs.TypedViews.{indirect_tree}
use Rattle.wast_typed_operands.proofs.Calls.{use_first_reads}
use Rattle.wast_typed_operands.proofs.call.parse_use_first.Goals as goal

pub returns-clause-read : goal.returns-clause-read
returns-clause-read c = subst (λ r. Gives indirect_tree c.use_then_table.result c.use_then_table.new.parser r) (sym (use_first_reads (ahead c.args.parser.now))) c.use_then_table.ensures.read
