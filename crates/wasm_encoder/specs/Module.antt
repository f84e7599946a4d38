-- Modules (WebAssembly 3.0, 5.5.2 and 5.5.17).
use Rattle.std.specs.Prelude.{ℕ, ◌≡◌, List, [], ◌∷◌, ◌++◌, drop}

-- the magic number and the version
abbrev pub header : List ℕ
header = 0x00 ∷ 0x61 ∷ 0x73 ∷ 0x6D ∷ 0x01 ∷ 0x00 ∷ 0x00 ∷ 0x00 ∷ []

-- a section of a module: its number, and its size and what it holds
abbrev pub numbered : ℕ → List ℕ → List ℕ
numbered id encoding = id ∷ encoding

-- what follows the header
abbrev pub after_header : List ℕ → List ℕ
after_header bytes = drop 8 bytes

abbrev pub HasHeader : List ℕ → Type 0
HasHeader bytes = bytes ≡ header ++ after_header bytes
