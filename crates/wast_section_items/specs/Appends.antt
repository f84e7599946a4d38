-- What appending items leaves in a section.
use Rattle.std.specs.Prelude.{ℕ, ◌≡◌, ◌+◌, ◌<◌, ◌^◌, List, length, Result, OnOk, OnErr, IsErrOf}
use Rattle.std.specs.List.{AllByRecursion}
use Rattle.wasm_encoder_base.specs.EncodeError.{EncodeError}
use Rattle.wasm_encoder_base.specs.EncodeError.TheVariants.{TooLarge}
use Rattle.wasm_encoder_base.specs.Lists.{Listed, with_items}

-- The items, each by its bytes, are the last, and each count and length in them is a number of 32 bits, as is that of the items, where it was
-- one before, and each number in them is in the range of its binary field; refused, the section is unchanged, and it was too large only where
-- a count or length is past 32 bits.
pub record Appends {A : Type 0} (spell : A → List ℕ) (Fits Sound : A → Type 0) (items : List A) (before after : Listed) (result : Result (Unit {0}) EncodeError) : Type 0 where
  pub appended : OnOk result (after ≡ with_items spell before items)
  pub room : OnOk result (before.count < 2 ^ 32 → before.count + length items < 2 ^ 32)
  pub fit : OnOk result (AllByRecursion Fits items)
  pub sound : OnOk result (AllByRecursion Sound items)
  pub unchanged : OnErr result (after ≡ before)
  pub too_large : IsErrOf result TooLarge → before.count + length items < 2 ^ 32 → AllByRecursion Fits items → ⊥
