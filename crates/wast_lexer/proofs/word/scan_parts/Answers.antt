use Rattle.std.proofs.Common.{sym, ◌∙◌, ap, drop}
use Rattle.std.specs.Prelude.{option_map}
use Rattle.wast_lexer.proofs.WordSteps.{word_fails, word_moves, word_dirty, word_clean}
use Rattle.wast_lexer.proofs.word.scan_parts.Goals as goal

pub returns-in-Err : goal.returns-in-Err
returns-in-Err c = word_fails c.args.allow c.args.opened c.args.text.now c.args.at c.requires.inside c.requires.begins c.in-Err.ensures

pub returns-then-not-may_stand : goal.returns-then-not-may_stand
returns-then-not-may_stand c = word_dirty c.args.allow c.args.opened c.args.text.now c.args.at c.in-Ok.end c.requires.inside c.requires.begins c.in-Ok.ensures.0 c.in-Ok.ensures.1 c.in-Ok.ensures.2 c.if-not-may_stand.ensures

pub returns-in-None : goal.returns-in-None
returns-in-None c = word_clean c.args.allow c.args.opened c.args.text.now c.args.at c.in-Ok.end c.requires.inside c.requires.begins c.in-Ok.ensures.0 c.in-Ok.ensures.1 c.in-Ok.ensures.2 c.if-not-may_stand.ensures ∙ ap (option_map (λ k. (k, drop c.in-Ok.end c.args.text.now))) (sym c.in-None.ensures)

pub returns-in-Some : goal.returns-in-Some
returns-in-Some c = ((word_moves c.args.text.now c.args.at c.in-Ok.end c.requires.inside c.requires.begins c.in-Ok.ensures.0 c.in-Ok.ensures.1 c.in-Ok.ensures.2, c.in-Ok.ensures.1), word_clean c.args.allow c.args.opened c.args.text.now c.args.at c.in-Ok.end c.requires.inside c.requires.begins c.in-Ok.ensures.0 c.in-Ok.ensures.1 c.in-Ok.ensures.2 c.if-not-may_stand.ensures ∙ ap (option_map (λ k. (k, drop c.in-Ok.end c.args.text.now))) (sym c.in-Some.ensures))
