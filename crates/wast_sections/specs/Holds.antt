-- What a section that is built of items is.
use Rattle.std.specs.Prelude.{ℕ, ◌≡◌, ◌<◌, ◌^◌, List, length, Result, Ok, Err, IfOk, OnOk, IsErrOf}
use Rattle.std.specs.List.{AllByRecursion}
use Rattle.wasm_encoder_base.specs.EncodeError.{EncodeError}
use Rattle.wasm_encoder_base.specs.EncodeError.TheVariants.{TooLarge}
use Rattle.wasm_encoder_base.specs.Lists.{Listed, listed}

-- The section is a list of exactly these items, their count and each count and length in them are numbers of 32 bits, and each number in them is
-- in the range of its binary field; it was too large only where a count or length is past 32 bits.
pub record Holds {A : Type 0} (spell : A → List ℕ) (Fits Sound : A → Type 0) (items : List A) (result : Result Listed EncodeError) : Type 0 where
  pub ok : IfOk result (λ section. section ≡ listed spell items)
  pub count : OnOk result (length items < 2 ^ 32)
  pub fit : OnOk result (AllByRecursion Fits items)
  pub sound : OnOk result (AllByRecursion Sound items)
  pub too_large : IsErrOf result TooLarge → length items < 2 ^ 32 → AllByRecursion Fits items → ⊥

-- the answer, seen so
abbrev pub map_ok : {A B E : Type 0} → (A → B) → Result A E → Result B E
map_ok f (Ok x) = Ok (f x)
map_ok f (Err e) = Err e
