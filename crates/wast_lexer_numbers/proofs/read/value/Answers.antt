use Rattle.std.proofs.Common.{◌≡◌, sym, subst, refl, true, []}
use Rattle.wast_lexer_numbers.specs.Numbers.{IsExponent}
use Rattle.wast_lexer_numbers.specs.NumberScan.{ends_fraction}
use Rattle.wast_lexer_numbers.proofs.NumberLaws.{exponent_is}
use Rattle.wast_lexer_numbers.proofs.NumberPartsLaws.{value_fraction, value_exponent}
use Rattle.wast_lexer_numbers.proofs.read.value.Goals as goal

pub fraction-requires-clause-fraction : goal.fraction-requires-clause-fraction
fraction-requires-clause-fraction c =
    let point = rw c.as_bytes.ensures.value at (c.if-is_point_first.ensures) in
    subst (λ y. ends_fraction c.args.hex y ≡ true) (sym c.range_from.ensures.value)
    (value_fraction c.args.hex c.args.sign c.args.text.now c.split_digits.result.1.now c.requires.float c.split_digits.ensures.rest (sym point))

pub returns : goal.returns
returns c =
    let s = c.split_digits.ensures in
    let tail = c.split_digits.result.1.now in
    let point = rw c.as_bytes.ensures.value at (c.if-is_point_first.ensures) in
    let ends = value_exponent c.args.hex c.args.sign c.args.text.now tail c.requires.float s.rest (sym point) in (
      refl,
      refl,
      record {
        fraction = [];
        exponent = tail;
        digits = s.digits;
        is_fraction = refl;
        is_exponent = subst (λ e. IsExponent c.args.hex e tail) c.exponent.ensures (exponent_is c.args.hex tail ends);
        split = s.split;
      },
    )
