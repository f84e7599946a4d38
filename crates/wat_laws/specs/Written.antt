-- Texts of which one spells the fields of the other written out: without inline parts (WebAssembly 3.0, 6.6, abbreviations).
use Rattle.std.specs.Prelude.{ℕ, ◌≡◌, true, false, List, map, None, option_map}
use std.Equiv.{Iso}
use Rattle.wast_grammar.specs.Tokens.{Name}
use Rattle.wast_grammar.specs.Spelling.{same_name}
use Rattle.wast_grammar.specs.Significant.{TextToken, AreSignificant}
use Rattle.wast_grammar.specs.Alike.{move, names}
use Rattle.wast_parser.specs.Identifiers.{Named, Reference, ByNumber, ByName}
use Rattle.wast_value_types.specs.ValueTree.{HeapType, Abstract, Concrete, Exact, TableType}
use Rattle.wast_imports.specs.ImportTree.{ImportItems, Single, Group1, Group2}
use Rattle.wast_field_syntax.specs.FieldTree.{Defined, Table, Memory, ElemMode, PassiveElem, DeclaredElem, ActiveElem, DataMode, PassiveData, ActiveData, Field, TypeField, RecField, ImportField, Define, ExportField, StartField, ElemField, DataField, CustomField, Fields, Module}
use Rattle.wast_core.specs.ModuleSyntax.{wat}
use Rattle.wast_meaning.specs.Written.{written_out}
use Rattle.wast_meaning.specs.Fresh.{taken_from, are_new, is_fresh}
use Rattle.wast_meant.specs.Means.{Worth, IsWorth}
use Rattle.wat_verdict.specs.Registered.{registered}
use Rattle.wat_verdict.specs.Spells.{Spells}
use Rattle.wat_verdict.specs.Verdict.{Accepts}
use Rattle.wat_verdict.specs.Alike.{SameBare}
use Rattle.wat_laws.specs.Bounds.{WithinBounds}

-- PLACES. What a field is written out as stands where the field stands, all of it; in a text each part has a place of its own.
pub record Places (P : Type 0) : Type 0 where
  -- the keyword, and the word of what is imported
  pub field : P
  pub item : P
  -- the name that it has, and the name or number of what it is of
  pub name : P
  pub reference : P
  -- the index in the type of a table's elements
  pub heap : P

module _ {N P : Type 0} where
  abbrev pub named_at : P → Named N P → Named N P
  named_at p id = (id.0, p)

  abbrev pub referred_at : P → Reference N P → Reference N P
  referred_at p (ByNumber n q) = ByNumber n p
  referred_at p (ByName id) = ByName (named_at p id)

  abbrev pub heap_at : P → HeapType N P → HeapType N P
  heap_at p (Abstract shared w) = Abstract shared w
  heap_at p (Concrete i) = Concrete (referred_at p i)
  heap_at p (Exact i) = Exact (referred_at p i)

  abbrev pub table_at : P → TableType N P → TableType N P
  table_at p t = record { limits = t.limits; shared = t.shared; element = record { nullable = t.element.nullable; heap_type = heap_at p t.element.heap_type } }

  -- A table without values and a memory may be what is left of one with a segment inline, and then the segment keeps the place q.
  abbrev pub place_at : P → P → Defined N P → P
  place_at p q (Table t None) = p
  place_at p q (Memory t) = p
  place_at p q d = q

  abbrev pub defined_at : P → Defined N P → Defined N P
  defined_at p (Table t None) = Table (table_at p t) None
  defined_at p d = d

  abbrev pub items_at : Places P → ImportItems N P → ImportItems N P
  items_at w (Single name i) = Single name (record { place = w.item; id = option_map (named_at w.name) i.id; given = i.given; extern_type = i.extern_type })
  items_at w (Group1 is) = Group1 is
  items_at w (Group2 names i) = Group2 names i

  abbrev pub elem_mode_at : P → ElemMode N P → ElemMode N P
  elem_mode_at p PassiveElem = PassiveElem
  elem_mode_at p DeclaredElem = DeclaredElem
  elem_mode_at p (ActiveElem table offset) = ActiveElem (option_map (referred_at p) table) offset

  abbrev pub data_mode_at : P → DataMode N P → DataMode N P
  data_mode_at p PassiveData = PassiveData
  data_mode_at p (ActiveData memory offset) = ActiveData (option_map (referred_at p) memory) offset

  -- the same field, of which these parts have places of their own
  abbrev pub placed : Places P → Field N P → Field N P
  placed w (TypeField t) = TypeField t
  placed w (RecField r) = RecField r
  placed w (ImportField i) = ImportField (record { place = i.place; from = i.from; items = items_at w i.items })
  placed w (Define d) = Define (record { place = place_at w.field d.place d.defined; id = option_map (named_at w.name) d.id; given = d.given; exports = d.exports; defined = defined_at w.heap d.defined })
  placed w (ExportField e) = ExportField (record { place = w.field; name = e.name; kind = e.kind; item = referred_at w.reference e.item })
  placed w (StartField s) = StartField s
  placed w (ElemField e) = ElemField (record { place = e.place; id = e.id; given = e.given; mode = elem_mode_at w.reference e.mode; elements = e.elements })
  placed w (DataField d) = DataField (record { place = d.place; id = d.id; given = d.given; mode = data_mode_at w.reference d.mode; values = d.values })
  placed w (CustomField c) = CustomField c

  -- each field, and with places of its own
  abbrev pub as_they_were : List (Places P × Field N P) → List (Field N P)
  as_they_were parts = map (λ x. x.1) parts

  abbrev pub all_placed : List (Places P × Field N P) → List (Field N P)
  all_placed parts = map (λ x. placed x.0 x.1) parts

-- TOKENS
abbrev pub identifiers : List TextToken → List Name
identifiers tokens = map (λ x. x.0) (names tokens tokens)

-- The first spell fields, and the others what these are written out as, with names that occur nowhere else.
pub record WrittenTokens (tokens others : List TextToken) : Type 0 where
  pub tree : Module Name ℕ
  pub fields : List (Field Name ℕ)
  pub content : tree.content ≡ Fields fields
  pub spelled : wat.spells tree tokens
  -- the names, by the positions of the fields that take one; they differ from each other, from those of the fields and from all identifiers
  pub naming : ℕ → Name
  pub fresh : is_fresh same_name naming fields ≡ true
  pub unsaid : are_new same_name (taken_from naming 0 fields) (identifiers tokens) ≡ true
  -- The others stand at other places. These are renumbered, one to one, so that what isn't new has the places that it has in the first.
  pub moving : Iso ℕ ℕ
  pub out : Module Name ℕ
  pub out_spelled : wat.spells out (map (move (λ n. n) moving.fun) others)
  pub parts : List (Places ℕ × Field Name ℕ)
  pub are_written : as_they_were parts ≡ written_out naming fields
  pub out_content : out.content ≡ Fields (all_placed parts)

-- TEXTS that lex, with such significant tokens
pub record WrittenTexts (text other : List ℕ) : Type 0 where
  pub tokens : List TextToken
  pub others : List TextToken
  pub significant : AreSignificant false registered text tokens × AreSignificant false registered other others
  pub written : WrittenTokens tokens others

-- Both are accepted or none is; and the modules that they mean are the same without their names, and so are the bytes of these.
pub record MeanAlike (text other : List ℕ) : Type 0 where
  pub forth : (w : Worth) → Accepts text w → (v : Worth) × Accepts other v × SameBare w v
  pub back : (w : Worth) → Accepts other w → (v : Worth) × Accepts text v × SameBare w v

-- Both mean a module or none does, and the modules are the same without their names. Within bounds it is so of what is accepted.
pub record WorthAlike (text other : List ℕ) : Type 0 where
  pub forth : (w : Worth) → IsWorth Spells text w → (v : Worth) × IsWorth Spells other v × SameBare w v
  pub back : (w : Worth) → IsWorth Spells other w → (v : Worth) × IsWorth Spells text v × SameBare w v
  pub accepted : WithinBounds text other → MeanAlike text other

abbrev pub WrittenOut : Type 0
WrittenOut = (text other : List ℕ) → WrittenTexts text other → WorthAlike text other
