-- What writing an entry leaves in a section.
use Rattle.std.specs.Prelude.{ℕ, ◌≡◌, List, Result, OnOk, OnErr, IsErrOf}
use Rattle.wasm_encoder_base.specs.EncodeError.{EncodeError}
use Rattle.wasm_encoder_base.specs.EncodeError.TheVariants.{TooLarge}
use Rattle.wasm_encoder_base.specs.Lists.{Listed, with_item, HasRoom}

-- The entry of these bytes is the last, and its count and lengths fit; refused, the section is unchanged, and it was too large
-- only where one does not fit.
pub record Writes (entry : List ℕ) (fits : Type 0) (before after : Listed) (result : Result (Unit {0}) EncodeError) : Type 0 where
  pub written : OnOk result (after ≡ with_item before entry)
  pub fit : OnOk result (HasRoom before × fits)
  pub unchanged : OnErr result (after ≡ before)
  pub too_large : IsErrOf result TooLarge → HasRoom before → fits → ⊥
