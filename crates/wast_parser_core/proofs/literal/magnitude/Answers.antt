use Rattle.std.proofs.Common.{◌<◌, arith, get_or}
use Rattle.wast_lexer.specs.Strings.{hex_value}
use Rattle.wast_parser_core.proofs.Literals.{digit_small, some_base, too_large}
use Rattle.wast_parser_core.proofs.literal.magnitude.Goals as goal

pub returns-in_err-checked_mul : goal.returns-in_err-checked_mul
returns-in_err-checked_mul c =
    let far = c.in_err-checked_mul.ensures in
    let some = some_base c.args.base c.loop-digit.size 0 (omega arith) (omega (arith, far)) in
    rw c.from_residual.ensures
    (too_large c.args.base c.loop-digit.size c.loop-digit.digit-index c.args.digits.now some c.loop-digit-test.true c.loop-digit.invariant.same c.if-digit-ne95.true (omega (arith, far)))

pub returns-in_err-size : goal.returns-in_err-size
returns-in_err-size c =
    let far = c.in_err-size.ensures in
    let product = c.in_ok-checked_mul.ensures in
    let digit = get_or c.args.digits.now c.loop-digit.digit-index 0 in
    let fits : digit < 256 = omega (arith, c.type_inv.digits c.loop-digit.digit-index) in
    let small = digit_small digit fits in
    let some = some_base c.args.base c.loop-digit.size (hex_value digit) small (omega (arith, far, product, c.digit_value.ensures)) in
    rw c.from_residual-in_err-size.ensures
    (too_large c.args.base c.loop-digit.size c.loop-digit.digit-index c.args.digits.now some c.loop-digit-test.true c.loop-digit.invariant.same c.if-digit-ne95.true (omega (arith, far, product, c.digit_value.ensures)))
