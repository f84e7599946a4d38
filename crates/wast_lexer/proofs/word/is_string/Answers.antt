use Rattle.std.proofs.Common.{sym, ◌∙◌, ap, arith, ◌<◌, length, false-eqb}
use Rattle.wast_lexer_strings.specs.StringScan.{is_empty}
use Rattle.wast_lexer.specs.Scan.{is_whole}
use Rattle.wast_lexer.proofs.WordSteps.{string_is, end_is}
use Rattle.wast_lexer.proofs.word.is_string.Goals as goal

pub returns-in-Ok : goal.returns-in-Ok
returns-in-Ok c =
    let some : 0 < length c.args.word.now = omega (arith, false-eqb _ 0 c.if-is_empty.ensures) in
    let f = c.in-Ok.ensures in
    end_is c.args.word.now c.in-Ok.end f.1 ∙ sym (string_is c.args.word.now some c.if-word-ne34.false ∙ ap is_whole f.3 ∙ ap is_empty f.4)

pub returns-in-Err : goal.returns-in-Err
returns-in-Err c =
    let some : 0 < length c.args.word.now = omega (arith, false-eqb _ 0 c.if-is_empty.ensures) in
    sym (string_is c.args.word.now some c.if-word-ne34.false ∙ ap is_whole c.in-Err.ensures)
