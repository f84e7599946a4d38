-- What appending what stands at a stop leaves (WebAssembly 3.0, 5.5.2).
use Rattle.std.specs.Prelude.{ℕ, ◌≡◌, ◌<◌, ◌^◌, Bool, true, false, not, ◌||◌, List, [], ◌∷◌, ◌++◌, length, Option, Some, None, Result, OnOk, IsErrOf}
use Rattle.std.specs.List.{flat_map, AllByRecursion}
use Rattle.wasm_encoder_base.specs.Bytes.{counted, sized}
use Rattle.wasm_encoder_base.specs.EncodeError.{EncodeError}
use Rattle.wasm_encoder_base.specs.EncodeError.TheVariants.{TooLarge}
use Rattle.wasm_encoder_custom.specs.Custom.{CustomFits, custom_bytes}
use Rattle.wasm_encoder_custom.specs.Names.{name_section}
use Rattle.wasm_encoder_sections.specs.Sections.{start_section, data_count_section}
use Rattle.wasm_encoder.specs.Module.{numbered}
use Rattle.wasm_layout.specs.AbstractModule.{NameMaps, AbstractModule}
use Rattle.wasm_layout.specs.IsModule.{IsU32, AreNames}
use Rattle.wasm_layout.specs.Layout.{Piece, piece_bytes, name_bytes}
use Rattle.wasm_layout.specs.Lays.{PiecesFit, Fits}
use Rattle.wasm_layout.specs.Present.{has_names}

-- The pieces stand behind what was there before, their sizes fit, and this holds; it was too large only where a size doesn't fit, or the
-- whole module doesn't.
pub record Puts (m : AbstractModule (List ℕ)) (ps : List Piece) (Sound : Type 0) (before after : List ℕ) (result : Result (Unit {0}) EncodeError) : Type 0 where
  pub put : OnOk result (after ≡ before ++ flat_map piece_bytes ps)
  pub sizes : OnOk result (PiecesFit ps)
  pub sound : OnOk result Sound
  pub too_large : IsErrOf result TooLarge → Fits m → PiecesFit ps → ⊥

-- A section that is a list, behind its number, if there are items.
abbrev pub list_bytes : {A : Type 0} → ℕ → (A → List ℕ) → List A → List ℕ
list_bytes number spell [] = []
list_bytes number spell (x ∷ xs) = numbered number (sized (counted spell (x ∷ xs)))

-- It stands behind what was there before, its size is a number of 32 bits, and so is each count and length in it, and its numbers are in range; it
-- was too large only where one of these isn't.
pub record PutsList {A : Type 0} (number : ℕ) (spell : A → List ℕ) (Fit Sound : A → Type 0) (items : List A) (before after : List ℕ) (result : Result (Unit {0}) EncodeError) : Type 0 where
  pub put : OnOk result (after ≡ before ++ list_bytes number spell items)
  pub size : OnOk result (IsU32 (length (counted spell items)))
  pub fit : OnOk result (AllByRecursion Fit items)
  pub sound : OnOk result (AllByRecursion Sound items)
  pub too_large : IsErrOf result TooLarge → length items < 2 ^ 32 → AllByRecursion Fit items → IsU32 (length (counted spell items)) → ⊥

-- what is left out, and that it fits
abbrev pub unless : Bool → List ℕ → List ℕ
unless true bytes = []
unless false bytes = bytes

abbrev pub FitsUnless : Bool → Type 0 → Type 0
FitsUnless true fits = Unit {0}
FitsUnless false fits = fits

-- the section of the count of data segments, where it is needed
abbrev pub count_bytes : Bool → ℕ → List ℕ
count_bytes needed count = unless (not needed) (numbered 12 (data_count_section count))

pub record PutsCount (needed : Bool) (count : ℕ) (before after : List ℕ) (result : Result (Unit {0}) EncodeError) : Type 0 where
  pub put : OnOk result (after ≡ before ++ count_bytes needed count)
  pub size : OnOk result (FitsUnless (not needed) (IsU32 count))
  pub too_large : IsErrOf result TooLarge → FitsUnless (not needed) (IsU32 count) → ⊥

-- the section of the start function, if there is one
abbrev pub start_bytes : Option ℕ → List ℕ
start_bytes None = []
start_bytes (Some function) = numbered 8 (start_section function)

-- the section of name maps, which is kept away where a custom section has its name
abbrev pub names_bytes : Bool → NameMaps (List ℕ) → List ℕ
names_bytes taken names = unless (taken || not (has_names names)) (numbered 0 (custom_bytes (name_section (name_bytes names))))

pub record PutsNames (taken : Bool) (names : NameMaps (List ℕ)) (before after : List ℕ) (result : Result (Unit {0}) EncodeError) : Type 0 where
  pub put : OnOk result (after ≡ before ++ names_bytes taken names)
  pub size : OnOk result (FitsUnless (taken || not (has_names names)) (CustomFits (name_section (name_bytes names))))
  pub too_large : IsErrOf result TooLarge → AreNames names → FitsUnless (taken || not (has_names names)) (CustomFits (name_section (name_bytes names))) → ⊥
