use Rattle.std.proofs.Common.{◌∙◌, ap, arith}
use Rattle.wast_lexer.proofs.WordLaws.{word_behind}
use Rattle.wast_lexer.proofs.WordSteps.{part_ends, part_quote, part_string}
use Rattle.wast_lexer.proofs.word.word_end.Goals as goal

pub returns-then-not-is_quote_at : goal.returns-then-not-is_quote_at
returns-then-not-is_quote_at c = (omega arith, omega arith, part_ends c.args.text.now _ c.parts.at c.name_end-at.result c.parts.invariant.rest c.name_end-at.ensures.rest c.if-not-is_quote_at.ensures.value)

pub returns-in-Err : goal.returns-in-Err
returns-in-Err c = part_quote c.args.text.now _ c.parts.at c.name_end-at.result c.parts.invariant.rest c.name_end-at.ensures.rest c.if-not-is_quote_at.ensures.value ∙ ap word_behind c.in-Err.ensures

pub parts-preserved : goal.parts-preserved
parts-preserved c =
    let f = c.in-Ok.ensures in
    record { forward = omega (arith, f.0); within = f.1; rest = part_string c.args.text.now _ c.parts.at c.name_end-at.result c.parts.invariant.rest c.name_end-at.ensures.rest c.if-not-is_quote_at.ensures.value c.in-Ok.end f.2 f.3 f.4 }
