-- Which bytes are the binary of a module, and what a reader of bytes finds (WebAssembly 3.0, chapter 5; appendix, Custom Sections).
use Rattle.std.specs.Prelude.{ℕ, ◌≡◌, false, if◌then◌else◌, List, [], ◌∷◌, ◌++◌, length, None, codes}
use Rattle.std.specs.List.{AllByRecursion}
use Rattle.wasm_encoder_code.specs.Body.{joined}
use Rattle.wasm_layout.specs.Section.{Names}
use Rattle.wasm_layout.specs.AbstractModule.{Function, NameMaps, AbstractModule}
use Rattle.wasm_layout.specs.Present.{is_present, is_called}
use Rattle.wasm_layout.specs.Layout.{Piece, contents, pieces, layout}
use Rattle.wasm_layout.specs.IsModule.{IsU32, IsModule}

-- the size of each section is a number of 32 bits, and with it each count and length inside
abbrev pub PiecesFit : List Piece → Type 0
PiecesFit ps = AllByRecursion (λ p. IsU32 (length (contents p))) ps

-- so is the count of locals of one type side by side, which the sizes don't bound
abbrev pub RunsFit : Function → Type 0
RunsFit f = AllByRecursion (λ r. IsU32 r.count) (joined f.body.locals)

-- both are so of a module
pub record Fits (m : AbstractModule (List ℕ)) : Type 0 where
  pub sizes : PiecesFit (pieces m)
  pub locals : AllByRecursion RunsFit m.functions

-- b is the binary of m
pub record Lays (b : List ℕ) (m : AbstractModule (List ℕ)) : Type 0 where
  pub is_module : IsModule m
  pub fits : Fits m
  pub bytes : b ≡ layout m

-- A reader of b finds m: no custom section of m has the name of one that is written by itself.
pub record Reads (b : List ℕ) (m : AbstractModule (List ℕ)) : Type 0 where
  pub lays : Lays b m
  pub no_names : is_called (codes "name") m.customs ≡ false
  pub no_hints : is_called (codes "metadata.code.branch_hint") m.customs ≡ false

-- the module without names: the gaps before and behind the section of names, the last one, are one gap
abbrev pub no_names : {A : Type 0} → NameMaps A
no_names = record { module_name = None; items = λ space. []; inner = λ space. [] }

abbrev pub last_joined : {A : Type 0} → List (List A) → List (List A)
last_joined (xs ∷ ys ∷ []) = (xs ++ ys) ∷ []
last_joined (xs ∷ ys ∷ zs ∷ rest) = xs ∷ last_joined (ys ∷ zs ∷ rest)
last_joined gaps = gaps

abbrev pub bare : {A : Type 0} → AbstractModule A → AbstractModule A
bare m = record m { names = no_names; customs = if is_present m Names then last_joined m.customs else m.customs }
