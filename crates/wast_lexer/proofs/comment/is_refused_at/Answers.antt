use Rattle.std.proofs.Common.{◌≡◌, ◌+◌, nat_lt, false, length, sym, ◌∙◌, arith}
use Rattle.std.proofs.lemmas.Bool.Decides.{nat_tests}
use Rattle.wast_lexer.proofs.Clean.{refused_here, refused_past}
use Rattle.wast_lexer.proofs.comment.is_refused_at.Goals as goal

pub returns-then-at-text : goal.returns-then-at-text
returns-then-at-text c = c.is_refused.ensures ∙ sym (refused_here c.args.text.now c.args.at c.if-at-text.true)

pub returns-else-at-text : goal.returns-else-at-text
returns-else-at-text c =
    let past : nat_lt (c.args.at + 2) (length c.args.text.now) ≡ false = grind (arith, nat_tests) in
    past ∙ sym (refused_past c.args.text.now c.args.at c.if-at-text.false)
