-- The LEB128 of a number of 32 bits is short.
use Rattle.std.proofs.Common.{ℕ, ◌/◌, ◌<◌, ◌≤◌, ◌^◌, length, ⊎_elim, arith}
use Rattle.std.proofs.lemmas.Bool.{cases_lt}
use Rattle.wasm_encoder_base.specs.Leb.{uleb}
use Rattle.wasm_encoder_base.proofs.LebSteps.{length-uleb-last, length-uleb-more}

one : (n : ℕ) → n < 128 → length (uleb n) ≤ 1
one n h = omega (arith, length-uleb-last n h)

two : (n : ℕ) → n < 16384 → length (uleb n) ≤ 2
two n h = ⊎_elim (λ p. omega (arith, length-uleb-last n p)) (λ p. omega (arith, length-uleb-more n p, one (n / 128) (omega arith))) (cases_lt n 128)

three : (n : ℕ) → n < 2097152 → length (uleb n) ≤ 3
three n h = ⊎_elim (λ p. omega (arith, length-uleb-last n p)) (λ p. omega (arith, length-uleb-more n p, two (n / 128) (omega arith))) (cases_lt n 128)

four : (n : ℕ) → n < 268435456 → length (uleb n) ≤ 4
four n h = ⊎_elim (λ p. omega (arith, length-uleb-last n p)) (λ p. omega (arith, length-uleb-more n p, three (n / 128) (omega arith))) (cases_lt n 128)

pub short : (n : ℕ) → n < 2 ^ 32 → length (uleb n) < 2 ^ 32
short n h = ⊎_elim (λ p. omega (arith, length-uleb-last n p)) (λ p. omega (arith, length-uleb-more n p, four (n / 128) (omega arith))) (cases_lt n 128)
