use Rattle.std.proofs.Common.{ℕ, ◌≡◌, ◌<◌, ◌≤◌, Bool, true, false, List, arith}
use Rattle.wasm_encoder_bytes.specs.Leb.{leb, uleb}
use Rattle.wasm_encoder_bytes.specs.Front.{StandsInFront}
use Rattle.wasm_encoder_bytes.proofs.ReadSteps.{none_holds}
use Rattle.wasm_encoder_bytes.proofs.reading.read_u32.Goals as goal

no-turn : {Z : Type 0} → false ≡ true → Z
no-turn e = absurd cc

unsigned : (bytes : List ℕ) → ((flip : Bool) (n : ℕ) → (flip ≡ true → ◌≡◌ {A = ℕ} 128 64) → n ≤ 4294967295 → StandsInFront (leb flip 128 n) bytes → ⊥) → (n : ℕ) → n < 4294967296 → StandsInFront (uleb n) bytes → ⊥
unfolding uleb
unsigned bytes none n h f = none false n no-turn (omega arith) f

pub returns-in_err-number-clause-none : goal.returns-in_err-number-clause-none
returns-in_err-number-clause-none c = none_holds c.from_residual.result (unsigned c.args.bytes.now c.in_err-number.ensures.none)
