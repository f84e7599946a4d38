-- The binary of a module without the section of names (WebAssembly 3.0, 5.5.17; appendix, Name Section).
use Rattle.std.specs.Prelude.{ℕ, ◌≡◌, List, ◌++◌, filter}
use Rattle.std.specs.List.{flat_map}
use Rattle.wasm_encoder.specs.Module.{header}
use Rattle.wasm_layout.specs.AbstractModule.{AbstractModule}
use Rattle.wasm_layout.specs.Layout.{piece_bytes, pieces, layout}
use Rattle.wasm_layout.specs.Lays.{bare}
use Rattle.wast_meant.specs.Means.{Means}
use Rattle.wast_meant_laws.specs.Stops.{is_unnamed}
use Rattle.wat_verdict.specs.Spells.{Spells}

-- the header and all pieces of a module but the section of names
abbrev pub unnamed_bytes : AbstractModule (List ℕ) → List ℕ
unnamed_bytes m = header ++ flat_map piece_bytes (filter is_unnamed (pieces m))

-- A module is the header and its pieces; without its names it is the same but for the section of names.
pub record LaidBare (m : AbstractModule (List ℕ)) : Type 0 where
  pub laid : layout m ≡ header ++ flat_map piece_bytes (pieces m)
  pub bare_laid : layout (bare m) ≡ unnamed_bytes m

pub record WithoutNames : Type 0 where
  -- So it is of each module that a text means, as one does that is accepted.
  pub of_text : (text : List ℕ) (m : AbstractModule (List ℕ)) → Means Spells text m → LaidBare m
  -- Where two texts mean the same but for names, the bytes are the same but for those of that section.
  pub of_texts : (text other : List ℕ) (m n : AbstractModule (List ℕ)) → Means Spells text m → Means Spells other n → bare m ≡ bare n → unnamed_bytes m ≡ unnamed_bytes n
