use Rattle.std.proofs.Common.{arith, ◌<◌, length, false-eqb}
use Rattle.wast_lexer.proofs.WordSteps.{name_is}
use Rattle.wast_lexer.proofs.word.is_name.Goals as goal

pub returns-then-not-is_empty : goal.returns-then-not-is_empty
returns-then-not-is_empty c =
    let some : 0 < length c.args.word.now = omega (arith, false-eqb _ 0 c.if-not-is_empty.ensures) in
    name_is c.args.word.now c.name_end.result some c.name_end.ensures.within c.name_end.ensures.rest
