use Rattle.std.proofs.Common.{ℕ, ℤ, pos, negsuc, ◌≡◌, ◌≤◌, ◌≤ℤ◌, Bool, true, false, List, refl, arith}
use Rattle.std.proofs.lemmas.Int.{ints}
use Rattle.wasm_encoder_bytes.specs.Leb.{leb, sleb}
use Rattle.wasm_encoder_bytes.specs.Front.{StandsInFront}
use Rattle.wasm_encoder_bytes.proofs.ReadSteps.{none_holds}
use Rattle.wasm_encoder_bytes.proofs.reading.read_s33.Goals as goal

signed : (bytes : List ℕ) → ((flip : Bool) (n : ℕ) → (flip ≡ true → ◌≡◌ {A = ℕ} 64 64) → n ≤ 4294967295 → StandsInFront (leb flip 64 n) bytes → ⊥) → (z : ℤ) → negsuc 4294967295 ≤ℤ z → z ≤ℤ pos 4294967295 → StandsInFront (sleb z) bytes → ⊥
unfolding sleb
signed bytes none (pos n) l h f = none false n (λ _. refl) (omega (arith, ints, h)) f
signed bytes none (negsuc n) l h f = none true n (λ _. refl) (omega (arith, ints, l)) f

pub returns-in_err-number-clause-none : goal.returns-in_err-number-clause-none
returns-in_err-number-clause-none c = none_holds c.from_residual.result (signed c.args.bytes.now c.in_err-number.ensures.none)
