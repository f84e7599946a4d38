-- Bytes that are not appended.
use Rattle.std.proofs.Common.{◌≡◌, ℕ, List, ap, ◌∙◌}
use Rattle.std.specs.Prelude.{Result, Ok, Err, OnErr, IsErrOf}
use Rattle.wasm_encoder_base.specs.Encodes.{Encodes}
use Rattle.wasm_encoder_base.specs.EncodeError.{EncodeError}
use Rattle.wasm_encoder_base.specs.EncodeError.TheVariants.{TooLarge}

pub unpushed : {T : Type 0} (spelling : List ℕ) (fits : Type 0) (before after : List ℕ) (r : Result T EncodeError) (e : EncodeError) → r ≡ Err e → OnErr r (after ≡ before) → (IsErrOf r TooLarge → fits → ⊥)
    → Encodes spelling fits before after (Err e)
unpushed spelling fits before after (Ok x) e was rest large = cc
unpushed spelling fits before after (Err x) e was rest large = record { spelled = tt; fit = tt; unchanged = rest; too_large = λ t. let error : e ≡ TooLarge = cc in large (was ∙ ap Err error) }
