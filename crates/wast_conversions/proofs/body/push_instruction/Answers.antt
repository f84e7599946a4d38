use Rattle.wast_conversions.proofs.Each.{anyway}
use Rattle.wast_conversions.proofs.Expressions.{encodes_meant}
use Rattle.wast_conversions.proofs.body.push_instruction.Goals as goal

pub returns-in-Ok-clause-same : goal.returns-in-Ok-clause-same
returns-in-Ok-clause-same c = encodes_meant c.args.instr.now c.in-Ok.converted _ _ c.push_encoded.result c.in-Ok.ensures.same c.push_encoded.ensures

pub returns-in-Ok-clause-sound : goal.returns-in-Ok-clause-sound
returns-in-Ok-clause-sound c = anyway c.push_encoded.result (c.in-Ok.ensures.sound c.requires.aligned)
