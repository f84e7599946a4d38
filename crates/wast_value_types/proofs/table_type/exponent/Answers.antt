use Rattle.std.proofs.Common.{◌≡◌, ◌^◌, sym, ◌∙◌, arith}
use Rattle.std.proofs.lemmas.Nat.{one_shl, pow_pos}
use Rattle.wast_value_types.proofs.Exponents.{exponent_is, no_exponent, between}
use Rattle.wast_value_types.proofs.table_type.exponent.Goals as goal

pub returns-then-size-eq0 : goal.returns-then-size-eq0
returns-then-size-eq0 c = sym (no_exponent c.args.size (λ k e. (let p = pow_pos k in let z = c.if-size-eq0.true in omega (arith, p, z, e))))

pub returns-then-size-exponent : goal.returns-then-size-exponent
returns-then-size-exponent c =
    let r = c.ilog2-exponent.result in
    sym (exponent_is c.args.size r c.ilog2-exponent.ensures.bound (c.if-size-exponent.true ∙ one_shl r 32 c.ilog2-exponent.ensures.bound))

pub returns-else-size-exponent : goal.returns-else-size-exponent
returns-else-size-exponent c =
    let r = c.ilog2-exponent.result in
    let other = λ (e : c.args.size ≡ 2 ^ r). c.if-size-exponent.false (e ∙ sym (one_shl r 32 c.ilog2-exponent.ensures.bound)) in
    sym (no_exponent c.args.size (λ k. between c.args.size r k c.ilog2-exponent.ensures.power_le c.ilog2-exponent.ensures.next_power_gt other))
