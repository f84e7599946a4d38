use Rattle.std.proofs.Common.{sym, ◌∙◌, ap, drop, arith}
use Rattle.std.specs.Prelude.{option_map}
use Rattle.wast_lexer.proofs.StringSteps.{string_on, string_fails, string_ends, string_kinds}
use Rattle.wast_lexer.proofs.WordSteps.{word_dirty, word_clean}
use Rattle.wast_lexer.proofs.word.scan_string.Goals as goal

pub scan_parts-requires-clause-begins : goal.scan_parts-requires-clause-begins
scan_parts-requires-clause-begins c = string_on c.args.allow c.args.opened c.args.text.now c.args.at c.requires.inside c.requires.quote

pub returns-in-Err : goal.returns-in-Err
returns-in-Err c = string_fails c.args.allow c.args.opened c.args.text.now c.args.at c.requires.inside c.requires.quote c.in-Err.ensures

pub returns-then-not-may_stand : goal.returns-then-not-may_stand
returns-then-not-may_stand c =
    let f = c.in-Ok.ensures in
    let ends = string_ends c.args.allow c.args.opened c.args.text.now c.args.at c.requires.inside c.requires.quote c.in-Ok.end (omega (arith, f.0)) f.1 f.2 f.3 f.4 (sym c.if-goes_on_at.ensures) in
    word_dirty c.args.allow c.args.opened c.args.text.now c.args.at c.in-Ok.end c.requires.inside (string_on c.args.allow c.args.opened c.args.text.now c.args.at c.requires.inside c.requires.quote) (omega (arith, f.0)) f.1 ends c.if-not-may_stand.ensures

pub returns : goal.returns
returns c =
    let f = c.in-Ok.ensures in
    let on = string_on c.args.allow c.args.opened c.args.text.now c.args.at c.requires.inside c.requires.quote in
    let ends = string_ends c.args.allow c.args.opened c.args.text.now c.args.at c.requires.inside c.requires.quote c.in-Ok.end (omega (arith, f.0)) f.1 f.2 f.3 f.4 (sym c.if-goes_on_at.ensures) in
    ((omega (arith, f.0), f.1), word_clean c.args.allow c.args.opened c.args.text.now c.args.at c.in-Ok.end c.requires.inside on (omega (arith, f.0)) f.1 ends c.if-not-may_stand.ensures ∙ ap (option_map (λ k. (k, drop c.in-Ok.end c.args.text.now))) (string_kinds c.args.allow c.args.opened c.args.text.now c.args.at c.requires.inside c.requires.quote c.in-Ok.end (omega (arith, f.0)) f.1 f.2 f.3 f.4))
