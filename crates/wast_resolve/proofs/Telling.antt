-- The index spaces that the items of fields join tell what their names mean.
use Rattle.std.proofs.Common.{◌≡◌, ℕ, Bool, true, false, List, [], ◌∷◌, ◌++◌, map, Option, Some, None, refl, ◌∙◌, ap}
use Rattle.std.specs.Prelude.{option_map, unwrap_or, slice_get, filter, if◌then◌else◌}
use Rattle.std.specs.List.{flat_map}
use Rattle.std.proofs.lemmas.Option.{slice_get-map}
use Rattle.wasm_encoder_base.specs.Table.{Space, Labels, Locals, Functions, Types, Tables, Memories, Globals, Tags, Datas, Elems, Fields}
use Rattle.wast_grammar.specs.Tokens.{Name}
use Rattle.wast_grammar.specs.Spelling.{same_name}
use Rattle.wast_parser.specs.Identifiers.{Named}
use Rattle.wast_names.specs.Position.{position}
use Rattle.wast_names.specs.Space as names
use Rattle.wast_names.specs.Space.{name_in}
use Rattle.wast_names.proofs.Positions.{numbers_of}
use Rattle.wast_exports.specs.Exports as exports
use Rattle.wast_imports.specs.ImportTree.{ImportItems, Single, Group1, Group2}
use Rattle.wast_field_syntax.specs.FieldTree.{Defined, TableOf, MemoryOf, Field, TypeField, RecField, ImportField, Define, ElemField, DataField}
use Rattle.wast_meaning.specs.Spaces.{Bound, same_space, space_word, bound, bound_type, bound_import, bound_imports, bound_segment, items, items_in, fields_at, denotes}
use Rattle.wast_meaning.specs.Written.{space_of_kind, kind_of_type, kind_of}
use Rattle.wast_meaning.proofs.Walked.{tells_so}
use Rattle.wast_spaces.specs.Joins.{spaces_behind, type_fields}
use Rattle.wast_spaces.specs.Views.{spaces_of, fields_of_types}
use Rattle.wast_spaces.specs.declared.spaces.Spaces.{Spaces}
use Rattle.wast_resolve.specs.Known.{Tells}
use Rattle.wast_numbered.specs.Place.{fields_in}

-- A SPACE that is none of the module has no items
module _ {N P : Type 0} (s : Space) (types : same_space s Types ≡ false) (datas : same_space s Datas ≡ false) (elems : same_space s Elems ≡ false)
    (kinds : (k : exports.ExportKind) → same_space s (space_of_kind k) ≡ false) where
  abbrev is_here : Bound N P → Bool
  is_here b = same_space s b.space

  skipped : (b : Bound N P) (bs : List (Bound N P)) → is_here b ≡ false → filter is_here (b ∷ bs) ≡ filter is_here bs
  skipped b bs h = ap (λ t. if t then b ∷ filter is_here bs else filter is_here bs) h

  none_each : {B : Type 0} (g : B → Bound N P) (xs : List B) → ((x : B) → is_here (g x) ≡ false) → filter is_here (map g xs) ≡ []
  none_each g [] h = refl
  none_each g (x ∷ xs) h = skipped (g x) (map g xs) (h x) ∙ none_each g xs h

  none_behind : (d : Defined N P) → filter is_here (bound_segment d) ≡ []
  none_behind (TableOf wide t es) = skipped (bound Elems None None) [] elems
  none_behind (MemoryOf wide page vs) = skipped (bound Datas None None) [] datas
  none_behind d = refl

  none_imported : (i : ImportItems N P) → filter is_here (bound_imports i) ≡ []
  none_imported (Single name i) = skipped (bound_import i) [] (kinds (kind_of_type i.extern_type))
  none_imported (Group1 is) = none_each (λ i. bound_import i.1) is (λ i. kinds (kind_of_type i.1.extern_type))
  none_imported (Group2 names i) = none_each (λ name. bound_import i) names (λ name. kinds (kind_of_type i.extern_type))

  none_here : (f : Field N P) → filter is_here (items f) ≡ []
  none_here (TypeField t) = skipped (bound_type t) [] types
  none_here (RecField r) = none_each bound_type r.types (λ t. types)
  none_here (ImportField i) = none_imported i.items
  none_here (Define d) = skipped (bound (space_of_kind (kind_of d.defined)) d.id d.given) (bound_segment d.defined) (kinds (kind_of d.defined)) ∙ none_behind d.defined
  none_here (ElemField e) = skipped (bound Elems e.id e.given) [] elems
  none_here (DataField d) = skipped (bound Datas d.id d.given) [] datas
  none_here f = refl

  none_then : (bs cs : List (Bound N P)) → filter is_here bs ≡ [] → filter is_here (bs ++ cs) ≡ filter is_here cs
  none_then [] cs = λ h. refl
  none_then (b ∷ bs) cs = of (is_here b) (none_then bs cs)
    where
      of : (t : Bool) → (filter is_here bs ≡ [] → filter is_here (bs ++ cs) ≡ filter is_here cs)
          → (if t then b ∷ filter is_here bs else filter is_here bs) ≡ [] → (if t then b ∷ filter is_here (bs ++ cs) else filter is_here (bs ++ cs)) ≡ filter is_here cs
      of true later h = absurd (cc)
      of false later h = later h

  pub none : (fs : List (Field N P)) → filter is_here (flat_map items fs) ≡ []
  none [] = refl
  none (f ∷ fs) = none_then (items f) (flat_map items fs) (none_here f) ∙ none fs

labels_apart : (k : exports.ExportKind) → same_space Labels (space_of_kind k) ≡ false
labels_apart exports.Func = refl
labels_apart exports.Table = refl
labels_apart exports.Memory = refl
labels_apart exports.Global = refl
labels_apart exports.Tag = refl

locals_apart : (k : exports.ExportKind) → same_space Locals (space_of_kind k) ≡ false
locals_apart exports.Func = refl
locals_apart exports.Table = refl
locals_apart exports.Memory = refl
locals_apart exports.Global = refl
locals_apart exports.Tag = refl

fields_apart : (k : exports.ExportKind) → same_space Fields (space_of_kind k) ≡ false
fields_apart exports.Func = refl
fields_apart exports.Table = refl
fields_apart exports.Memory = refl
fields_apart exports.Global = refl
fields_apart exports.Tag = refl

-- THE SPACES OF FIELDS
module _ (s : Spaces) (fs : List (Field Name ℕ)) where
  module _ (h : spaces_of s ≡ spaces_behind (λ t. names.empty) (flat_map items fs)) where
    so : (t : Space) (n : Name) → (spaces_of s t).look n ≡ names.denoted same_name (space_word t) n (map name_in (map (λ b. b.id) (items_in t fs)))
    so t n = ap (λ (f : Space → names.Space Name). (f t).look n) h ∙ tells_so same_name fs t n

    pub items_told : (t : Space) (n : Name) → (spaces_of s t).look n ≡ denotes same_name fs t n
    items_told Labels n = so Labels n ∙ ap (λ bs. names.denoted same_name (space_word Labels) n (map name_in (map (λ b. b.id) bs))) (none Labels refl refl refl labels_apart fs)
    items_told Locals n = so Locals n ∙ ap (λ bs. names.denoted same_name (space_word Locals) n (map name_in (map (λ b. b.id) bs))) (none Locals refl refl refl locals_apart fs)
    items_told Fields n = so Fields n ∙ ap (λ bs. names.denoted same_name (space_word Fields) n (map name_in (map (λ b. b.id) bs))) (none Fields refl refl refl fields_apart fs)
    items_told Functions n = so Functions n
    items_told Types n = so Types n
    items_told Tables n = so Tables n
    items_told Memories n = so Memories n
    items_told Globals n = so Globals n
    items_told Tags n = so Tags n
    items_told Datas n = so Datas n
    items_told Elems n = so Elems n

  fields_told : fields_of_types s ≡ type_fields (flat_map items fs) → (t : ℕ) (n : Name) → (fields_in s t).look n ≡ position same_name n (map name_in (fields_at fs t))
  fields_told h t n =
      ap (λ l. (unwrap_or (slice_get l t) names.empty).look n) h ∙ ap (λ o. (unwrap_or o names.empty).look n) (slice_get-map (λ b. names.space_of same_name (space_word Fields) b.fields) (items_in Types fs) t)
      ∙ of (slice_get (items_in Types fs) t)
    where
      of : (o : Option (Bound Name ℕ)) → (unwrap_or (option_map (λ b. names.space_of same_name (space_word Fields) b.fields) o) names.empty).look n
          ≡ position same_name n (map name_in (elim o as (λ _. List (Option (Named Name ℕ))) [ Some b ↦ b.fields | None ↦ [] ]))
      of None = refl
      of (Some b) = numbers_of same_name (space_word Fields) b.fields n

  pub told : spaces_of s ≡ spaces_behind (λ t. names.empty) (flat_map items fs) → fields_of_types s ≡ type_fields (flat_map items fs) → Tells s fs
  told spaces fields = record { items = items_told spaces; fields = fields_told fields }
