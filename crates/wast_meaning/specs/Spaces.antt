-- Index spaces (WebAssembly 3.0, 6.1.3 and 6.6.1): the items of fields in order, and which number a name means.
use Rattle.std.specs.Prelude.{ℕ, Bool, nat_eq, List, [], ◌∷◌, length, map, slice_get, Option, Some, None, filter, codes}
use Rattle.std.specs.List.{flat_map}
use Rattle.wasm_encoder_base.specs.Table.{Space, Labels, Locals, Functions, Types, Tables, Memories, Globals, Tags, Datas, Elems, Fields}
use Rattle.wast_parser.specs.Identifiers.{Named}
use Rattle.wast_names.specs.Position.{position}
use Rattle.wast_names.specs.Space as names
use Rattle.wast_names.specs.Space.{name_in, denoted}
use Rattle.wast_field_syntax.specs.TypeTree.{InnerType, StructType, TypeItem}
use Rattle.wast_imports.specs.ImportTree.{Item, ImportItems, Single, Group1, Group2}
use Rattle.wast_field_syntax.specs.FieldTree.{Defined, TableOf, MemoryOf, Field, TypeField, RecField, ImportField, Define, ElemField, DataField}
use Rattle.wast_meaning.specs.Written.{space_of_kind, kind_of_type, kind_of}

-- spaces are told apart by numbers
abbrev pub space_number : Space → ℕ
space_number Labels = 0
space_number Locals = 1
space_number Functions = 2
space_number Types = 3
space_number Tables = 4
space_number Memories = 5
space_number Globals = 6
space_number Tags = 7
space_number Datas = 8
space_number Elems = 9
space_number Fields = 10

abbrev pub same_space : Space → Space → Bool
same_space s t = nat_eq (space_number s) (space_number t)

-- what an item of a space is called in complaints
abbrev pub space_word : Space → List ℕ
space_word Labels = codes "label"
space_word Locals = codes "local"
space_word Functions = codes "func"
space_word Types = codes "type"
space_word Tables = codes "table"
space_word Memories = codes "memory"
space_word Globals = codes "global"
space_word Tags = codes "tag"
space_word Datas = codes "data"
space_word Elems = codes "elem"
space_word Fields = codes "field"

-- an item of a space: what it is called, and of a struct type what its fields are called
pub record Bound (N P : Type 0) : Type 0 where
  pub space : Space
  pub id : Option (Named N P)
  pub given : Option (List ℕ)
  pub fields : List (Option (Named N P))

module _ {N P : Type 0} where
  abbrev pub bound : Space → Option (Named N P) → Option (List ℕ) → Bound N P
  bound s id given = record { space = s; id = id; given = given; fields = [] }

  -- a space of its own for the fields of each struct type
  abbrev pub fields_of : InnerType N P → List (Option (Named N P))
  fields_of (StructType fs) = map (λ f. f.id) fs
  fields_of _ = []

  abbrev pub bound_type : TypeItem N P → Bound N P
  bound_type t = record { space = Types; id = t.id; given = t.given; fields = fields_of t.definition.comp.inner }

  abbrev pub bound_import : Item N P → Bound N P
  bound_import i = bound (space_of_kind (kind_of_type i.extern_type)) i.id i.given

  abbrev pub bound_imports : ImportItems N P → List (Bound N P)
  bound_imports (Single name i) = bound_import i ∷ []
  bound_imports (Group1 is) = map (λ i. bound_import i.1) is
  bound_imports (Group2 names i) = map (λ name. bound_import i) names

  -- a segment that stands inline has no name
  abbrev pub bound_segment : Defined N P → List (Bound N P)
  bound_segment (TableOf wide t es) = bound Elems None None ∷ []
  bound_segment (MemoryOf wide page vs) = bound Datas None None ∷ []
  bound_segment d = []

  -- the items of a field, in order
  abbrev pub items : Field N P → List (Bound N P)
  items (TypeField t) = bound_type t ∷ []
  items (RecField r) = map bound_type r.types
  items (ImportField i) = bound_imports i.items
  items (Define d) = bound (space_of_kind (kind_of d.defined)) d.id d.given ∷ bound_segment d.defined
  items (ElemField e) = bound Elems e.id e.given ∷ []
  items (DataField d) = bound Datas d.id d.given ∷ []
  items _ = []

  -- those of one space
  abbrev pub items_in : Space → List (Field N P) → List (Bound N P)
  items_in s fs = filter (λ b. same_space s b.space) (flat_map items fs)

  abbrev pub ids_in : Space → List (Field N P) → List (Option (Named N P))
  ids_in s fs = map (λ b. b.id) (items_in s fs)

  -- the fields of the type with a number
  abbrev pub fields_at : List (Field N P) → ℕ → List (Option (Named N P))
  fields_at fs t = elim (slice_get (items_in Types fs) t) [ Some b ↦ b.fields | None ↦ [] ]

module _ {N P : Type 0} (eq : N → N → Bool) where
  -- what a name means in a space of a module; labels, locals and fields have no space of the module
  abbrev pub denotes : List (Field N P) → Space → N → Option ℕ
  denotes fs Labels n = None
  denotes fs Locals n = None
  denotes fs Fields n = None
  denotes fs s n = denoted eq (space_word s) n (map name_in (ids_in s fs))

  -- the space of the fields of a type, of locals, or of labels: a name means the first item that bears it
  abbrev pub listed : List (Option (Named N P)) → names.Space N
  listed ids = record { count = length ids; look = λ n. position eq n (map name_in ids) }
