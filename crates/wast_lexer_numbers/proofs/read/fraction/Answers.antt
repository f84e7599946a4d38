use Rattle.std.proofs.Common.{sym, ap, subst, inl, inr, ◌++◌, List, ℕ}
use Rattle.wast_lexer_numbers.specs.Numbers.{IsExponent}
use Rattle.wast_lexer_numbers.proofs.NumberLaws.{exponent_is}
use Rattle.wast_lexer_numbers.proofs.NumberPartsLaws.{fraction_tail}
use Rattle.wast_lexer_numbers.proofs.read.fraction.Goals as goal

pub returns-then-ends_power : goal.returns-then-ends_power
returns-then-ends_power c =
    let text = c.args.text.now in
    let ends = rw c.as_bytes.ensures.value at (c.if-ends_power.ensures) in
    (text, inl c.range.ensures.value, subst (λ e. IsExponent c.args.hex e text) c.exponent.ensures (exponent_is c.args.hex text (sym ends)), ap (λ (y : List ℕ). y ++ text) (sym c.range.ensures.value))

pub returns : goal.returns
returns c =
    let text = c.args.text.now in
    let s = c.split_digits.ensures in
    let tail = c.split_digits.result.1.now in
    let isnt = rw c.as_bytes.ensures.value at (c.if-ends_power.ensures) in
    let ends = fraction_tail c.args.hex text tail c.requires.fraction (sym isnt) s.rest in
    (tail, inr s.digits, subst (λ e. IsExponent c.args.hex e tail) c.exponent-2.ensures (exponent_is c.args.hex tail ends), s.split)
