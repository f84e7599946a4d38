use Rattle.std.proofs.Common.{sym, ◌∙◌, ap, drop, get_or, ◌+◌}
use Rattle.std.proofs.lemmas.List.{drop_more}
use Rattle.wast_operands.proofs.Digits.{may_end, digit, gap, neither}
use Rattle.wast_operands.proofs.number.are_digits.Goals.{then-is_base, else-is_base+then-behind_digit+then-byte-eq95, else-behind_digit-via-then-behind_digit+else-byte-eq95, else-behind_digit-via-else-behind_digit}
use Rattle.wast_operands.proofs.number.are_digits.Goals as goal

pub returns-else-behind_digit : goal.returns-else-behind_digit
returns-else-behind_digit c =
    let hex = c.args.hex in
    let text = c.args.text.now in
    let i = c.loop-byte.byte-index in
    let b = c.loop-byte.behind_digit in
    let no = sym c.is_base.ensures ∙ c.if-is_base.false in
    sym (neither hex b (get_or text i 0) (drop (i + 1) text) no (λ y. elim c.else-behind_digit.branch [
      | else-behind_digit-via-then-behind_digit+else-byte-eq95 w ↦ w.if-byte-eq95.false
      | else-behind_digit-via-else-behind_digit w ↦ absurd (cc)
    ]))
    ∙ ap (may_end hex b) (sym (drop_more text i 0 c.loop-byte-test.true)) ∙ c.loop-byte.invariant

pub loop-byte-preserved : goal.loop-byte-preserved
loop-byte-preserved c =
    let hex = c.args.hex in
    let text = c.args.text.now in
    let i = c.loop-byte.byte-index in
    let b = c.loop-byte.behind_digit in
    let onward = ap (may_end hex b) (sym (drop_more text i 0 c.loop-byte-test.true)) ∙ c.loop-byte.invariant in
    elim c.if-is_base.branch [
      | then-is_base w ↦ ap (λ v. may_end hex v (drop (i + 1) text)) w.behind_digit-is ∙ sym (digit hex b (get_or text i 0) (drop (i + 1) text) (sym c.is_base.ensures ∙ w.if-is_base.true)) ∙ onward
      | else-is_base+then-behind_digit+then-byte-eq95 w ↦ ap (λ v. may_end hex v (drop (i + 1) text)) w.behind_digit-is ∙ sym (gap hex b (get_or text i 0) (drop (i + 1) text) w.if-behind_digit.true w.if-byte-eq95.true) ∙ onward
    ]
