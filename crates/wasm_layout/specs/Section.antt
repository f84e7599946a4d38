-- The kinds of sections (WebAssembly 3.0, 5.5.2), with the two custom ones that hold branch hints and names.
use Rattle.std.specs.Prelude.{ℕ, Bool, List, [], ◌∷◌, nat_eq}

pub data SectionKind : Type 0 where
  Types : SectionKind
  Imports : SectionKind
  Functions : SectionKind
  Tables : SectionKind
  Memories : SectionKind
  Tags : SectionKind
  Globals : SectionKind
  Exports : SectionKind
  Starts : SectionKind
  Elements : SectionKind
  DataCount : SectionKind
  Hints : SectionKind
  Codes : SectionKind
  Datas : SectionKind
  Names : SectionKind

-- a custom section has the number 0
abbrev pub section_number : SectionKind → ℕ
section_number Types = 1
section_number Imports = 2
section_number Functions = 3
section_number Tables = 4
section_number Memories = 5
section_number Tags = 13
section_number Globals = 6
section_number Exports = 7
section_number Starts = 8
section_number Elements = 9
section_number DataCount = 12
section_number Hints = 0
section_number Codes = 10
section_number Datas = 11
section_number Names = 0

-- their order
abbrev pub order : List SectionKind
order =
    Types ∷ Imports ∷ Functions ∷ Tables ∷ Memories ∷ Tags ∷ Globals ∷ Exports ∷ Starts ∷ Elements
    ∷ DataCount ∷ Hints ∷ Codes ∷ Datas ∷ Names ∷ []

-- the place of each in that order
abbrev pub rank : SectionKind → ℕ
rank Types = 0
rank Imports = 1
rank Functions = 2
rank Tables = 3
rank Memories = 4
rank Tags = 5
rank Globals = 6
rank Exports = 7
rank Starts = 8
rank Elements = 9
rank DataCount = 10
rank Hints = 11
rank Codes = 12
rank Datas = 13
rank Names = 14

abbrev pub same_section : SectionKind → SectionKind → Bool
same_section j k = nat_eq (rank j) (rank k)
