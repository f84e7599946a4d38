-- What encoding a value leaves in the sink.
use Rattle.std.specs.Prelude.{ℕ, ◌≡◌, List, ◌++◌, Result, OnOk, OnErr, IsErrOf}
use Rattle.wasm_encoder_bytes.specs.declared.error.EncodeError.{EncodeError}
use Rattle.wasm_encoder_bytes.specs.declared.error.EncodeError.TheVariants.{TooLarge}

-- The spelling stands behind what the sink had before, and every count and length in it fits; refused, the sink is
-- unchanged, and it was too large only where one does not fit.
pub record Encodes (spelling : List ℕ) (fits : Type 0) (before after : List ℕ) (result : Result (Unit {0}) EncodeError) : Type 0 where
  pub spelled : OnOk result (after ≡ before ++ spelling)
  pub fit : OnOk result fits
  pub unchanged : OnErr result (after ≡ before)
  pub too_large : IsErrOf result TooLarge → fits → ⊥

-- The same where a refusal may leave a part of it behind what the sink had before.
pub record Puts (spelling : List ℕ) (fits : Type 0) (before after : List ℕ) (result : Result (Unit {0}) EncodeError) : Type 0 where
  pub spelled : OnOk result (after ≡ before ++ spelling)
  pub fit : OnOk result fits
  pub grown : (more : List ℕ) × (after ≡ before ++ more)
  pub too_large : IsErrOf result TooLarge → fits → ⊥
