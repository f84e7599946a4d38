-- An entry that is not written.
use Rattle.std.proofs.Common.{◌≡◌, ℕ, List, ap, ◌∙◌}
use Rattle.std.specs.Prelude.{Result, Ok, Err, OnErr, IsErrOf}
use Rattle.wasm_encoder_base.specs.EncodeError.{EncodeError}
use Rattle.wasm_encoder_base.specs.EncodeError.TheVariants.{TooLarge}
use Rattle.wasm_encoder_base.specs.Lists.{Listed, HasRoom}
use Rattle.wasm_encoder_sections.specs.Writes.{Writes}

pub unwritten : {T : Type 0} (entry : List ℕ) (fits all : Type 0) (before after : Listed) (r : Result T EncodeError) (e : EncodeError) → r ≡ Err e → OnErr r (after ≡ before)
    → (IsErrOf r TooLarge → all → ⊥) → (HasRoom before → fits → all) → Writes entry fits before after (Err e)
unwritten entry fits all before after (Ok x) e was rest large both = cc
unwritten entry fits all before after (Err x) e was rest large both = record { written = tt; fit = tt; unchanged = rest; too_large = λ t room fit. let error : e ≡ TooLarge = cc in large (was ∙ ap Err error) (both room fit) }
