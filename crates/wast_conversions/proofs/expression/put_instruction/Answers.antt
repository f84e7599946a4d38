use Rattle.wast_conversions.proofs.Each.{anyway}
use Rattle.wast_conversions.proofs.Expressions.{encodes_meant}
use Rattle.wast_conversions.proofs.expression.put_instruction.Goals as goal

pub returns-in-Ok-clause-same : goal.returns-in-Ok-clause-same
returns-in-Ok-clause-same c = encodes_meant c.args.instr.now c.in-Ok.converted _ _ c.encode.result c.in-Ok.ensures.same c.encode.ensures

pub returns-in-Ok-clause-sound : goal.returns-in-Ok-clause-sound
returns-in-Ok-clause-sound c = anyway c.encode.result (c.in-Ok.ensures.sound c.requires.aligned)
