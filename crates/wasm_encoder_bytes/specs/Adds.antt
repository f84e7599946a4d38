-- What a call that adds to a builder leaves. It answers the builder, for a further call.
use denote.RattleType.{RattleType}
use Rattle.std.specs.Prelude.{◌≡◌, Result, IfOk, OnOk, IsErrOf}
use Rattle.std.specs.Borrow.{MutBor, Fml, RestsIfErr}
use Rattle.wasm_encoder_bytes.specs.declared.adding.Added.{Added}
use Rattle.wasm_encoder_bytes.specs.declared.error.EncodeError.{EncodeError}
use Rattle.wasm_encoder_bytes.specs.declared.error.EncodeError.TheVariants.{TooLarge}

-- The target is what `added` says, and is answered itself; every count and length fits, and it was too large only where one
-- does not.
pub record Adds {T : Type 0} (target : MutBor T) (added : T) (fits : Type 0) (result : Result (Added T) EncodeError) : Type 0 where
  pub ok : IfOk result (λ answer. answer.target.now ≡ added)
  pub same_target : IfOk result (λ answer. answer.target.ghost_name ≡ target.ghost_name)
  pub fit : OnOk result fits
  pub too_large : IsErrOf result TooLarge → fits → ⊥

-- Refused, the target is unchanged; else it is what becomes of the answer.
abbrev pub KeptIfRefused : (R : RattleType) → MutBor R.Denot → Result (Added R.Denot) EncodeError → Fml
KeptIfRefused R target result = RestsIfErr R target (λ answer. answer.target.ghost_name) result (λ kept. kept ≡ target.now)
