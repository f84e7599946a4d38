-- The syntax of custom fields (WebAssembly 3.0, appendix "Custom Sections and Annotations", and the tool conventions).
use Rattle.std.specs.Prelude.{ℕ, true, false, List, [], ◌∷◌, Option, map, codes, unwrap_or}
use Rattle.wast_parser.specs.Look.{Test, On, OneOf, AWord, this_word, this_annotation, string_starts}
use Rattle.wast_parser.specs.Grammar.{Syntax, among, word, mark, string, next, seq, seen, maybe, many, either, paren}
use Rattle.wast_parser.specs.Productions.{name}
use Rattle.wast_customs.specs.CustomTree.{Anchor, TypeItem, Import, Func, Table, Memory, Global, Export, Start, Elem, Code, Data, Tag, CustomPlace, BeforeFirst, Before, After, AfterLast, RawSection, ProducerKind, Language, Sdk, ProcessedBy, Producer, Producers, Subsection, Dylink, Custom, Raw, ProducersField, DylinkField}
use Rattle.wast_customs.specs.Dylink.{joined}
use Rattle.wast_customs.specs.DylinkSyntax.{group_starts, dylink_group}

-- SECTIONS, and the words that they are named by
abbrev pub anchor_word : Anchor → List ℕ
anchor_word TypeItem = codes "type"
anchor_word Import = codes "import"
anchor_word Func = codes "func"
anchor_word Table = codes "table"
anchor_word Memory = codes "memory"
anchor_word Global = codes "global"
anchor_word Export = codes "export"
anchor_word Start = codes "start"
anchor_word Elem = codes "elem"
anchor_word Code = codes "code"
anchor_word Data = codes "data"
anchor_word Tag = codes "tag"

abbrev pub anchors : List Anchor
anchors = TypeItem ∷ Import ∷ Func ∷ Table ∷ Memory ∷ Global ∷ Export ∷ Start ∷ Elem ∷ Code ∷ Data ∷ Tag ∷ []

-- the two sides of a section
pub data Side : Type 0 where
  Ahead : Side
  Behind : Side

abbrev pub side_word : Side → List ℕ
side_word Ahead = codes "before"
side_word Behind = codes "after"

abbrev pub sides : List Side
sides = Ahead ∷ Behind ∷ []

abbrev pub place_starts : List Test
place_starts = On true AWord (OneOf (map side_word sides) []) ∷ []

abbrev pub section_starts : List Test
section_starts = On false AWord (OneOf (map anchor_word anchors) []) ∷ []

abbrev pub end_starts : List Test
end_starts = this_word (codes "first") ∷ this_word (codes "last") ∷ section_starts

-- what (@custom ..) is seen as: after the last section where no place is written
abbrev pub as_raw : {P : Type 0} → P × (List ℕ × (Option CustomPlace × List (List ℕ))) → RawSection P
as_raw c = record { place = c.0; name = c.1.0; section = unwrap_or c.1.1.0 AfterLast; strings = c.1.1.1 }

module _ {N P : Type 0} where
  abbrev pub anchor : Syntax N P Anchor
  anchor = seen (λ a. a.0) (among anchor_word anchors [])

  -- PLACES: (before first), (before section), (after section), (after last)
  abbrev pub place_on : Side → Syntax N P CustomPlace
  place_on Ahead = either (this_word (codes "first") ∷ []) (seen (λ _. BeforeFirst) (word (codes "first"))) (seen Before anchor)
  place_on Behind = either (this_word (codes "last") ∷ []) (seen (λ _. AfterLast) (word (codes "last"))) (seen After anchor)

  abbrev pub place_body : Syntax N P CustomPlace
  place_body = seen (λ p. p.1) (next (among side_word sides []) (λ s. place_on s.0) end_starts true [])

  abbrev pub custom_place : Syntax N P CustomPlace
  custom_place = paren place_body

  -- (@custom name place? string*)
  abbrev pub raw_body : Syntax N P (RawSection P)
  raw_body = seen as_raw (seq (mark (codes "custom")) (seq name (seq (maybe place_starts custom_place) (many string_starts string))))

  abbrev pub raw_section : Syntax N P (RawSection P)
  raw_section = paren raw_body

-- PRODUCERS, and the words of their kinds
abbrev pub producer_word : ProducerKind → List ℕ
producer_word Language = codes "language"
producer_word Sdk = codes "sdk"
producer_word ProcessedBy = codes "processed-by"

abbrev pub producer_kinds : List ProducerKind
producer_kinds = Language ∷ Sdk ∷ ProcessedBy ∷ []

abbrev pub producer_starts : List Test
producer_starts = On true AWord (OneOf (map producer_word producer_kinds) []) ∷ []

abbrev pub as_producer : {P : Type 0} → (ProducerKind × P) × (List ℕ × List ℕ) → Producer
as_producer p = record { kind = p.0.0; name = p.1.0; version = p.1.1 }

abbrev pub as_producers : {P : Type 0} → P × List Producer → Producers P
as_producers p = record { place = p.0; fields = p.1 }

abbrev pub as_dylink : {P : Type 0} → P × List Subsection → Dylink P
as_dylink d = record { place = d.0; subsections = d.1 }

module _ {N P : Type 0} where
  -- (kind name version)
  abbrev pub producer_body : Syntax N P Producer
  producer_body = seen as_producer (seq (among producer_word producer_kinds []) (seq name name))

  abbrev pub producer : Syntax N P Producer
  producer = paren producer_body

  -- (@producers producer*)
  abbrev pub producers_body : Syntax N P (Producers P)
  producers_body = seen as_producers (seq (mark (codes "producers")) (many producer_starts producer))

  abbrev pub producers : Syntax N P (Producers P)
  producers = paren producers_body

  -- (@dylink.0 group*), where neighbours that speak of exports, or of imports, are joined
  abbrev pub dylink_groups : Syntax N P (List Subsection)
  dylink_groups = seen joined (many group_starts dylink_group)

  abbrev pub dylink_body : Syntax N P (Dylink P)
  dylink_body = seen as_dylink (seq (mark (codes "dylink.0")) dylink_groups)

  abbrev pub dylink : Syntax N P (Dylink P)
  dylink = paren dylink_body

  -- CUSTOM FIELDS
  abbrev pub custom : Syntax N P (Custom P)
  custom =
      either (this_annotation (codes "custom") ∷ []) (seen Raw raw_section)
      (either (this_annotation (codes "producers") ∷ []) (seen ProducersField producers) (seen DylinkField dylink))

-- what a custom field begins with
abbrev pub custom_starts : List Test
custom_starts = this_annotation (codes "custom") ∷ this_annotation (codes "producers") ∷ this_annotation (codes "dylink.0") ∷ []
