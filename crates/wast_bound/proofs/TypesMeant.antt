-- Types among the items of fields, and the names of their fields.
use Rattle.std.proofs.Common.{◌≡◌, ℕ, Bool, false, List, [], ◌∷◌, ◌++◌, Option, Some, None, refl, sym, ◌∙◌, ap}
use Rattle.std.specs.Prelude.{is_some, map, filter, slice_get, option_map, option_and_then}
use Rattle.std.specs.List.{flat_map, find, list_any, position_from}
use Rattle.std.proofs.lemmas.List.{map-append}
use Rattle.std.proofs.lemmas.List.Elements.{filter-append}
use Rattle.std.proofs.lemmas.Option.{slice_get-map}
use Rattle.wasm_encoder_base.specs.Table as table
use Rattle.wast_grammar.specs.Tokens.{Name}
use Rattle.wast_grammar.specs.Spelling.{same_name}
use Rattle.wast_parser.specs.Identifiers.{Named, Reference, ByNumber, ByName}
use Rattle.wast_signatures.specs.TypeTree.{TypeItem}
use Rattle.wast_exports.specs.Exports as exports
use Rattle.wast_imports.specs.ImportTree.{Item, ImportItems, Single, Group1, Group2}
use Rattle.wast_fields.specs.FieldTree.{Field, TypeField, RecField, ImportField, Define, ElemField, DataField, Defined, TableOf, MemoryOf}
use Rattle.wast_names.specs.Position.{bears}
use Rattle.wast_names.specs.Space as names
use Rattle.wast_names.specs.Space.{name_in}
use Rattle.wast_meaning.specs.Written.{space_of_kind, kind_of, kind_of_type}
use Rattle.wast_meaning.specs.Spaces.{Bound, same_space, bound_type, bound_import, bound_imports, bound_segment, fields_at, items, items_in}
use Rattle.wast_meaning.specs.Scope.{scope_of, members}
use Rattle.wast_bound.specs.Bound.{types, has}
use Rattle.wast_bound.proofs.Looks.{filtered, some_position, found, seen_from}

abbrev is_type : Bound Name ℕ → Bool
is_type b = same_space table.Types b.space

-- WHICH ITEMS ARE TYPES
no_kind : (k : exports.ExportKind) → same_space table.Types (space_of_kind k) ≡ false
no_kind exports.Func = refl
no_kind exports.Table = refl
no_kind exports.Memory = refl
no_kind exports.Global = refl
no_kind exports.Tag = refl

left_out : (b : Bound Name ℕ) (bs : List (Bound Name ℕ)) → is_type b ≡ false → filter is_type bs ≡ [] → filter is_type (b ∷ bs) ≡ []
left_out b bs h rest = filtered is_type b bs false h ∙ rest

no_segment : (d : Defined Name ℕ) → filter is_type (bound_segment d) ≡ []
no_segment (TableOf wide t es) = refl
no_segment (MemoryOf wide page vs) = refl
no_segment d = refl

import_left_out : (i : Item Name ℕ) (bs : List (Bound Name ℕ)) → filter is_type bs ≡ [] → filter is_type (bound_import i ∷ bs) ≡ []
import_left_out i bs rest = left_out (bound_import i) bs (no_kind (kind_of_type i.extern_type)) rest

members_left_out : (is : List (List ℕ × Item Name ℕ)) → filter is_type (map (λ i. bound_import i.1) is) ≡ []
members_left_out [] = refl
members_left_out (i ∷ is) = import_left_out i.1 (map (λ j. bound_import j.1) is) (members_left_out is)

alike_left_out : (names : List (List ℕ)) (i : Item Name ℕ) → filter is_type (map (λ name. bound_import i) names) ≡ []
alike_left_out [] i = refl
alike_left_out (name ∷ names) i = import_left_out i (map (λ other. bound_import i) names) (alike_left_out names i)

no_imports : (is : ImportItems Name ℕ) → filter is_type (bound_imports is) ≡ []
no_imports (Single name i) = import_left_out i [] refl
no_imports (Group1 is) = members_left_out is
no_imports (Group2 names i) = alike_left_out names i

all_types : (ts : List (TypeItem Name ℕ)) → filter is_type (map bound_type ts) ≡ map bound_type ts
all_types [] = refl
all_types (t ∷ ts) = ap (λ bs. bound_type t ∷ bs) (all_types ts)

of_field : (f : Field Name ℕ) → filter is_type (items f) ≡ map bound_type (types f)
of_field (TypeField t) = refl
of_field (RecField r) = all_types r.types
of_field (ImportField i) = no_imports i.items
of_field (Define d) = left_out _ (bound_segment d.defined) (no_kind (kind_of d.defined)) (no_segment d.defined)
of_field (ElemField e) = refl
of_field (DataField d) = refl
of_field f = refl

types_are : (fs : List (Field Name ℕ)) → items_in table.Types fs ≡ map bound_type (flat_map types fs)
types_are [] = refl
types_are (f ∷ fs) =
    filter-append is_type (items f) (flat_map items fs)
    ∙ ap (λ bs. bs ++ filter is_type (flat_map items fs)) (of_field f)
    ∙ ap (λ bs. map bound_type (types f) ++ bs) (types_are fs)
    ∙ sym (map-append bound_type (types f) (flat_map types fs))

-- THE FIELDS OF A TYPE
abbrev fields_in : Option (Bound Name ℕ) → List (Option (Named Name ℕ))
fields_in o = elim o [ Some b ↦ b.fields | None ↦ [] ]

fields_found : (n : Name) (o : Option (TypeItem Name ℕ)) → list_any (bears same_name n) (map name_in (fields_in (option_map bound_type o))) ≡ has n o
fields_found n None = refl
fields_found n (Some t) = refl

-- of the type with a number
numbered : (fs : List (Field Name ℕ)) (k : ℕ) (n : Name) → list_any (bears same_name n) (map name_in (fields_at fs k)) ≡ has n (slice_get (flat_map types fs) k)
numbered fs k n =
    ap (λ bs. list_any (bears same_name n) (map name_in (fields_in (slice_get bs k)))) (types_are fs)
    ∙ ap (λ b. list_any (bears same_name n) (map name_in (fields_in b))) (slice_get-map bound_type (flat_map types fs) k)
    ∙ fields_found n (slice_get (flat_map types fs) k)

-- of that to which a look-up leads
looked : (fs : List (Field Name ℕ)) (o : Option ℕ) (n : Name)
    → is_some ((elim o as (λ x. names.Space Name) [ Some k ↦ (scope_of same_name fs).fields k | None ↦ record { count = 0; look = λ m. None } ]).look n) ≡ has n (option_and_then (slice_get (flat_map types fs)) o)
looked fs None n = refl
looked fs (Some k) n = some_position n (map name_in (fields_at fs k)) ∙ numbered fs k n

place_of_name : (fs : List (Field Name ℕ)) (m : Name) → ((scope_of same_name fs).spaces table.Types).look m ≡ position_from (λ t. bears same_name m (name_in t.id)) 0 (flat_map types fs)
place_of_name fs m =
    ap (λ bs. position_from (bears same_name m) 0 (map name_in (map (λ b. b.id) bs))) (types_are fs)
    ∙ seen_from (bears same_name m) name_in 0 (map (λ b. b.id) (map bound_type (flat_map types fs)))
    ∙ seen_from (λ id. bears same_name m (name_in id)) (λ b. b.id) 0 (map bound_type (flat_map types fs))
    ∙ seen_from (λ b. bears same_name m (name_in b.id)) bound_type 0 (flat_map types fs)

-- MEMBERS of what an index means, wherever it stands
pub member_numbered : (fs : List (Field Name ℕ)) (k : ℕ) (n : Name) → has n (slice_get (flat_map types fs) k) ≡ is_some ((members (scope_of same_name fs) (ByNumber k 0)).look n)
member_numbered fs k n = sym (looked fs (Some k) n)

pub member_named : (fs : List (Field Name ℕ)) (m : Name) (n : Name)
    → has n (find (λ t. bears same_name m (name_in t.id)) (flat_map types fs)) ≡ is_some ((members (scope_of same_name fs) (ByName (m, 0))).look n)
member_named fs m n =
    let meant = λ (t : TypeItem Name ℕ). bears same_name m (name_in t.id) in
    sym (
    ap (λ o. is_some ((elim o as (λ x. names.Space Name) [ Some k ↦ (scope_of same_name fs).fields k | None ↦ record { count = 0; look = λ l. None } ]).look n)) (place_of_name fs m)
    ∙ looked fs (position_from meant 0 (flat_map types fs)) n
    ∙ ap (has n) (found meant (flat_map types fs)))

-- without fields an index means no type
abbrev no_fields : List (Field Name ℕ)
no_fields = []

pub no_member : (i : Reference Name ℕ) (n : Name) → false ≡ is_some ((members (scope_of same_name no_fields) i).look n)
no_member (ByNumber k p) n = member_numbered no_fields k n
no_member (ByName id) n = member_named no_fields id.0 n
