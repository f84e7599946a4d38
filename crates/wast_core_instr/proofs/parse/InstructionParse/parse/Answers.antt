use Rattle.wast_typed_operands.specs.State.{ahead}
use Rattle.wast_core_instr.proofs.Worded.{worded, unworded}
use Rattle.wast_core_instr.proofs.parse.InstructionParse.parse.Goals as goal

pub returns-in-Ok-clause-read : goal.returns-in-Ok-clause-read
returns-in-Ok-clause-read c =
    worded (ahead c.args.parser.now) (ahead c.among.new.self) _ _ c.in-Ok.ensures.read c.parse_operands.result c.parse_operands.new.parser c.parse_operands.ensures.read c.parse_operands.ensures.same

pub returns-in-Err-clause-read : goal.returns-in-Err-clause-read
returns-in-Err-clause-read c = unworded (ahead c.args.parser.now) c.in-Err.e c.in-Err.ensures.read
