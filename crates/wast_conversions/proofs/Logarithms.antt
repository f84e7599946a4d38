-- The logarithm of a power of two.
use Rattle.std.proofs.Common.{◌≡◌, ℕ, zero, suc, ◌<◌, ◌^◌, refl, sym, ◌∙◌, ap, subst, arith}
use Rattle.wast_conversions.specs.Operands.{IsPower, logarithm}

of_power : (k : ℕ) → k < 16 → logarithm (2 ^ k) ≡ k
unfolding logarithm lib.Count.count_trailing_zeros
of_power zero l = refl
of_power (suc zero) l = refl
of_power (suc (suc zero)) l = refl
of_power (suc (suc (suc zero))) l = refl
of_power (suc (suc (suc (suc zero)))) l = refl
of_power (suc (suc (suc (suc (suc zero))))) l = refl
of_power (suc (suc (suc (suc (suc (suc zero)))))) l = refl
of_power (suc (suc (suc (suc (suc (suc (suc zero))))))) l = refl
of_power (suc (suc (suc (suc (suc (suc (suc (suc zero)))))))) l = refl
of_power (suc (suc (suc (suc (suc (suc (suc (suc (suc zero))))))))) l = refl
of_power (suc (suc (suc (suc (suc (suc (suc (suc (suc (suc zero)))))))))) l = refl
of_power (suc (suc (suc (suc (suc (suc (suc (suc (suc (suc (suc zero))))))))))) l = refl
of_power (suc (suc (suc (suc (suc (suc (suc (suc (suc (suc (suc (suc zero)))))))))))) l = refl
of_power (suc (suc (suc (suc (suc (suc (suc (suc (suc (suc (suc (suc (suc zero))))))))))))) l = refl
of_power (suc (suc (suc (suc (suc (suc (suc (suc (suc (suc (suc (suc (suc (suc zero)))))))))))))) l = refl
of_power (suc (suc (suc (suc (suc (suc (suc (suc (suc (suc (suc (suc (suc (suc (suc zero))))))))))))))) l = refl
of_power (suc (suc (suc (suc (suc (suc (suc (suc (suc (suc (suc (suc (suc (suc (suc (suc k)))))))))))))))) l = absurd (omega arith)

-- two to its power is the number, and it is below 16
pub logarithm_exact : (n : ℕ) → IsPower n → 2 ^ logarithm n ≡ n
logarithm_exact n p = ap (λ m. 2 ^ logarithm m) p.2 ∙ ap (λ k. 2 ^ k) (of_power p.0 p.1) ∙ sym p.2

pub logarithm_below : (n : ℕ) → IsPower n → logarithm n < 16
logarithm_below n p = let e : logarithm n ≡ p.0 = ap logarithm p.2 ∙ of_power p.0 p.1 in let P : ℕ → Type 0 = λ k. k < 16 in subst P (sym e) p.1
