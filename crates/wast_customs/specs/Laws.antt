-- The laws that the crate's law function proves.
use Rattle.std.specs.Prelude.{◌≡◌, List, [], ◌∷◌}
use Rattle.std.specs.List.{flat_map}
use Rattle.wast_customs.specs.CustomTree.{Subsection, ExportInfo, ImportInfo}
use Rattle.wast_customs.specs.Dylink.{joined, entries_of}

-- Joining neighbours keeps every entry, in its place.
abbrev pub JoiningKeeps : Type 0
JoiningKeeps = (ss : List Subsection) → flat_map entries_of (joined ss) ≡ flat_map entries_of ss

-- both speak of exports, or both of imports
abbrev pub SpeakAlike : Subsection → Subsection → Type 0
SpeakAlike (ExportInfo es) (ExportInfo fs) = Unit {0}
SpeakAlike (ImportInfo is) (ImportInfo js) = Unit {0}
SpeakAlike s t = ⊥

-- no two neighbours do
abbrev pub AreApart : List Subsection → Type 0
AreApart [] = Unit {0}
AreApart (s ∷ []) = Unit {0}
AreApart (s ∷ t ∷ ss) = ¬ (SpeakAlike s t) × AreApart (t ∷ ss)

-- Joined, none is left to join.
abbrev pub JoinedApart : Type 0
JoinedApart = (ss : List Subsection) → AreApart (joined ss)
