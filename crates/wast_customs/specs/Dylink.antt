-- The subsections of `dylink.0` (tool conventions, dynamic linking): how those that are written are joined, and their bytes.
use Rattle.std.specs.Prelude.{map, ℕ, ◌<◌, ◌^◌, List, [], ◌∷◌, ◌++◌, length, All}
use Rattle.wasm_encoder_base.specs.Leb.{uleb}
use Rattle.wasm_encoder_base.specs.Bytes.{counted, sized}
use Rattle.wast_customs.specs.CustomTree.{Subsection, MemInfo, Needed, ExportInfo, ImportInfo, RuntimePath}

-- what is said of these exports, or imports, stands before what is said of the ones behind it, in one list
abbrev pub exports_before : List (List ℕ × ℕ) → List Subsection → List Subsection
exports_before es (ExportInfo fs ∷ rest) = ExportInfo (es ++ fs) ∷ rest
exports_before es rest = ExportInfo es ∷ rest

abbrev pub imports_before : List (List ℕ × (List ℕ × ℕ)) → List Subsection → List Subsection
imports_before is (ImportInfo js ∷ rest) = ImportInfo (is ++ js) ∷ rest
imports_before is rest = ImportInfo is ∷ rest

abbrev pub joined_before : Subsection → List Subsection → List Subsection
joined_before (ExportInfo es) rest = exports_before es rest
joined_before (ImportInfo is) rest = imports_before is rest
joined_before s rest = s ∷ rest

-- neighbours that speak of exports, or of imports, in one list
abbrev pub joined : List Subsection → List Subsection
joined [] = []
joined (s ∷ ss) = joined_before s (joined ss)

-- what a subsection says, an entry at a time
abbrev pub entries_of : Subsection → List Subsection
entries_of (ExportInfo es) = map (λ e. ExportInfo (e ∷ [])) es
entries_of (ImportInfo is) = map (λ i. ImportInfo (i ∷ [])) is
entries_of s = s ∷ []

-- the number of a subsection
abbrev pub subsection_id : Subsection → ℕ
subsection_id (MemInfo a b c d) = 1
subsection_id (Needed names) = 2
subsection_id (ExportInfo es) = 3
subsection_id (ImportInfo is) = 4
subsection_id (RuntimePath names) = 5

-- names and flags
abbrev pub export_bytes : List ℕ × ℕ → List ℕ
export_bytes e = sized e.0 ++ uleb e.1

abbrev pub import_bytes : List ℕ × (List ℕ × ℕ) → List ℕ
import_bytes i = sized i.0 ++ sized i.1.0 ++ uleb i.1.1

-- what follows its number and its size
abbrev pub payload : Subsection → List ℕ
payload (MemInfo a b c d) = uleb a ++ (uleb b ++ (uleb c ++ uleb d))
payload (Needed names) = counted sized names
payload (ExportInfo es) = counted export_bytes es
payload (ImportInfo is) = counted import_bytes is
payload (RuntimePath names) = counted sized names

-- every count and length in it is a number of 32 bits
abbrev pub NameFits : List ℕ → Type 0
NameFits name = length name < 2 ^ 32

abbrev pub ExportFits : List ℕ × ℕ → Type 0
ExportFits e = NameFits e.0

abbrev pub ImportFits : List ℕ × (List ℕ × ℕ) → Type 0
ImportFits i = NameFits i.0 × NameFits i.1.0

abbrev pub PayloadFits : Subsection → Type 0
PayloadFits (MemInfo a b c d) = Unit {0}
PayloadFits (Needed names) = (length names < 2 ^ 32) × All NameFits names
PayloadFits (ExportInfo es) = (length es < 2 ^ 32) × All ExportFits es
PayloadFits (ImportInfo is) = (length is < 2 ^ 32) × All ImportFits is
PayloadFits (RuntimePath names) = (length names < 2 ^ 32) × All NameFits names
