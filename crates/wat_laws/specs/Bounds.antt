-- Texts that are not refused before they are read.
use Rattle.std.specs.Prelude.{ℕ, ◌<◌, ◌^◌, List, length}
use Rattle.std.specs.Str.{IsUtf8}

-- Both have at most 4294967295 bytes, and are UTF-8.
pub record WithinBounds (text other : List ℕ) : Type 0 where
  pub short : (length text < 2 ^ 32) × (length other < 2 ^ 32)
  pub utf8 : IsUtf8 text × IsUtf8 other

-- two such texts that are related so
abbrev pub Within : (List ℕ → List ℕ → Type 0) → List ℕ → List ℕ → Type 0
Within R text other = R text other × WithinBounds text other
