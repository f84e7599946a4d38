-- Custom fields as custom sections, and the gaps in which they stand (WebAssembly 3.0, appendix "Custom Sections and Annotations", and the tool
-- conventions).
use Rattle.std.specs.Prelude.{Bool, true, false, List, [], ◌∷◌, ◌++◌, map, filter}
use Rattle.std.specs.List.{flat_map}
use Rattle.wasm_encoder_base.specs.Lists.{listed}
use Rattle.wasm_encoder_base.specs.Table.{same_text}
use Rattle.wasm_encoder_custom.specs.Custom as binary
use Rattle.wasm_encoder_custom.specs.Custom.{custom, subsection}
use Rattle.wasm_encoder_custom.specs.Producers as binary_producers
use Rattle.wasm_encoder_custom.specs.Producers.{field_bytes, producers_section}
use Rattle.wast_customs.specs.CustomTree.{Anchor, TypeItem, Import, Func, Table, Memory, Global, Export, Start, Elem, Code, Data, Tag, CustomPlace, BeforeFirst, Before, After, AfterLast, ProducerKind, Producer, Custom, Raw, ProducersField, DylinkField, place_of, name_of}
use Rattle.wast_customs.specs.CustomSyntax.{anchor_word, producer_word, producer_kinds}
use Rattle.wast_customs.specs.Dylink.{subsection_id, payload}
use Rattle.wast_field_syntax.specs.FieldTree.{Field, CustomField}
use Rattle.wasm_layout.specs.Section.{SectionKind, Types, Imports, Functions, Tables, Memories, Tags, Globals, Exports, Starts, Elements, DataCount, Hints, Codes, Datas, Names}
use Rattle.wasm_layout.specs.Present.{has_any}
use Rattle.wasm_layout.specs.Layout.{if_there}

-- producers: those of each kind in a field; a kind that has none has no field
abbrev pub of_kind : List Producer → ProducerKind → List Producer
of_kind ps kind = filter (λ p. same_text (producer_word kind) (producer_word p.kind)) ps

abbrev pub producers_field : List Producer → ProducerKind → binary_producers.Field
producers_field ps kind = record { name = producer_word kind; values = map (λ p. record { name = p.name; version = p.version }) (of_kind ps kind) }

abbrev pub producers_fields : List Producer → List binary_producers.Field
producers_fields ps = flat_map (λ kind. if_there (has_any (of_kind ps kind)) (producers_field ps kind)) producer_kinds

-- the section of a field
abbrev pub custom_of : {P : Type 0} → Custom P → binary.Custom
custom_of (Raw s) = custom s.name (flat_map (λ bytes. bytes) s.strings)
custom_of (ProducersField p) = producers_section (listed field_bytes (producers_fields p.fields))
custom_of (DylinkField d) = custom (name_of (DylinkField d)) (flat_map (λ s. subsection (subsection_id s) (payload s)) d.subsections)

abbrev pub customs_in : {N P : Type 0} → Field N P → List (Custom P)
customs_in (CustomField c) = c ∷ []
customs_in f = []

-- PLACES
abbrev pub same_anchor : Anchor → Anchor → Bool
same_anchor a b = same_text (anchor_word a) (anchor_word b)

abbrev pub same_place : CustomPlace → CustomPlace → Bool
same_place BeforeFirst BeforeFirst = true
same_place (Before a) (Before b) = same_anchor a b
same_place (After a) (After b) = same_anchor a b
same_place AfterLast AfterLast = true
same_place p q = false

-- places and sections in their order: each section between the places before and after it; data count behind (after elem), hints before the
-- codes, names behind (after data)
pub data Stop : Type 0 where
  At : CustomPlace → Stop
  Of : SectionKind → Stop

abbrev pub stops : List Stop
stops =
    At BeforeFirst
    ∷ At (Before TypeItem) ∷ Of Types ∷ At (After TypeItem)
    ∷ At (Before Import) ∷ Of Imports ∷ At (After Import)
    ∷ At (Before Func) ∷ Of Functions ∷ At (After Func)
    ∷ At (Before Table) ∷ Of Tables ∷ At (After Table)
    ∷ At (Before Memory) ∷ Of Memories ∷ At (After Memory)
    ∷ At (Before Tag) ∷ Of Tags ∷ At (After Tag)
    ∷ At (Before Global) ∷ Of Globals ∷ At (After Global)
    ∷ At (Before Export) ∷ Of Exports ∷ At (After Export)
    ∷ At (Before Start) ∷ Of Starts ∷ At (After Start)
    ∷ At (Before Elem) ∷ Of Elements ∷ At (After Elem)
    ∷ Of DataCount
    ∷ At (Before Code) ∷ Of Hints ∷ Of Codes ∷ At (After Code)
    ∷ At (Before Data) ∷ Of Datas ∷ At (After Data)
    ∷ Of Names
    ∷ At AfterLast ∷ []

-- the gaps: each section that is there ends one
abbrev pub precede : {A : Type 0} → List A → List (List A) → List (List A)
precede xs [] = xs ∷ []
precede xs (gap ∷ gaps) = (xs ++ gap) ∷ gaps

abbrev pub gaps_from : (CustomPlace → List binary.Custom) → (SectionKind → Bool) → List Stop → List (List binary.Custom)
gaps_from at is_there [] = [] ∷ []
gaps_from at is_there (At place ∷ rest) = precede (at place) (gaps_from at is_there rest)
gaps_from at is_there (Of kind ∷ rest) = elim (is_there kind) [ true ↦ [] ∷ gaps_from at is_there rest | false ↦ gaps_from at is_there rest ]

-- the sections of a place, in the order of their fields
abbrev pub at_place : {P : Type 0} → List (Custom P) → CustomPlace → List binary.Custom
at_place cs place = map custom_of (filter (λ c. same_place place (place_of c)) cs)

abbrev pub gaps : {P : Type 0} → List (Custom P) → (SectionKind → Bool) → List (List binary.Custom)
gaps cs is_there = gaps_from (at_place cs) is_there stops
