-- The names that are gathered are those that are meant.
use Rattle.std.proofs.Common.{ℕ, suc, ◌≡◌, Bool, true, false, List, [], ◌∷◌, ◌++◌, length, map, replicate, Option, Some, None, refl, sym, ap, ◌∙◌, append-nil}
use Rattle.std.specs.Prelude.{if◌then◌else◌, filter, slice_get, option_map, option_and_then, unwrap_or}
use Rattle.std.specs.List.{flat_map, list_all}
use Rattle.std.proofs.lemmas.List.{map-append}
use Rattle.std.proofs.lemmas.List.Elements.{filter-append}
use Rattle.std.proofs.lemmas.Option.{slice_get-map}
use Rattle.std.proofs.lemmas.Simd.{map-map}
use Rattle.wasm_encoder_base.specs.Balanced.{Turn, Opens, Closes, Stays}
use Rattle.wasm_encoder_base.specs.Table.{Space, Types}
use Rattle.wasm_encoder_custom.specs.Names as binary
use Rattle.wast_grammar.specs.Tokens.{Name}
use Rattle.wast_grammar.specs.Spelling.{same_name}
use Rattle.wast_parser.specs.Identifiers.{Named, Reference, ByNumber, ByName}
use Rattle.wast_signatures.specs.TypeTree.{InnerType, FuncType, Local, Sig, TypeUse, TypeItem}
use Rattle.wast_imports.specs.ImportTree.{ExternType, OfFunc, OfExactFunc, OfTable, OfMemory, OfGlobal, OfTag, ImportItems, Single, Group1, Group2}
use Rattle.wast_exports.specs.Exports as exports
use Rattle.wast_core_instr.specs.InstructionTree.{Instruction}
use Rattle.wast_module_fields.specs.FieldTree.{Function, Defined, Imported, Func, Table, TableOf, Memory, MemoryOf, Global, Tag, Field, TypeField, RecField, ImportField, Define, ExportField, StartField, ElemField, DataField, CustomField}
use Rattle.wast_meaning.specs.Implied.{no_sig, func_sig, written_types}
use Rattle.wast_meaning.specs.Mentions.{Uses, local_mentions, expr_mentions, field_mentions}
use Rattle.wast_meaning.specs.Scope.{Scope, scope_of, params_of, turn_of_head, own_label}
use Rattle.wast_meaning.specs.Settled.{has_number, is_settled, are_settled}
use Rattle.wast_meaning.specs.Spaces.{Bound, same_space, bound, bound_type, bound_import, bound_imports, bound_segment, fields_of, items, items_in}
use Rattle.wast_meaning.specs.Written.{kind_of, kind_of_type, space_of_kind}
use Rattle.wast_meaning.proofs.Resolved.{none_implied}
use Rattle.wast_meaning.proofs.Settled.{left, right}
use Rattle.wasm_layout.specs.AbstractModule.{Naming}
use Rattle.wast_meant.specs.Binary.{bytes_of, naming_with, inner_with}
use Rattle.wast_meaning.specs.Made.{is_made}
use Rattle.wast_meant.specs.NamesMeant.{named_from, named, inner_naming, inner_from, inner_named, space_of, imported_function, defined_function, bodies_in, imported_tag, tags_in, GivenName, identifier, given_name, opener_name, names_of_locals, names_of_labels}
use Rattle.wast_meant.specs.NamesMeant as meant
use Rattle.wast_name_maps.specs.Gathered.{name_if, bound_names, opened_name, label_names, type_groups, function_groups, nameless_groups, tag_groups, import_groups, defined_groups, field_groups}
use Rattle.wast_name_maps.specs.Given.{given, identified, local_names, sig_names}
use Rattle.wast_spaces.specs.Params.{inner_count, param_count}
use Rattle.wast_name_maps.specs.Locals.{params_by, locals_by}
use Rattle.wast_name_maps.specs.Maps.{maps_in}

-- MAPS with other names
module _ {A B : Type 0} (f : A → B) where
  named_with : (n : ℕ) (os : List (Option A)) → map (naming_with f) (named_from n os) ≡ named_from n (map (option_map f) os)
  named_with n [] = refl
  named_with n (None ∷ os) = named_with (suc n) os
  named_with n (Some a ∷ os) = ap (λ v. record { index = n; name = f a } ∷ v) (named_with (suc n) os)

  inner_one : (n : ℕ) (ns : List (Naming A)) → map (inner_with f) (inner_naming n ns) ≡ inner_naming n (map (naming_with f) ns)
  inner_one n [] = refl
  inner_one n (x ∷ xs) = refl

  inner_named_with : (n : ℕ) (gs : List (List (Option A))) → map (inner_with f) (inner_from n gs) ≡ inner_from n (map (map (option_map f)) gs)
  inner_named_with n [] = refl
  inner_named_with n (g ∷ gs) =
      map-append (inner_with f) (inner_naming n (named g)) (inner_from (suc n) gs)
      ∙ ap (λ v. v ++ map (inner_with f) (inner_from (suc n) gs)) (inner_one n (named g) ∙ ap (inner_naming n) (named_with 0 g))
      ∙ ap (λ v. inner_naming n (named (map (option_map f) g)) ++ v) (inner_named_with (suc n) gs)

-- LISTS
abbrev all_bytes : List (Option (GivenName Name)) → List (Option (List ℕ))
all_bytes names = map (option_map bytes_of) names

-- ITEMS
bound_one : (t : Bool) (b : Bound Name ℕ) (rest : List (Option (List ℕ))) (bs : List (Bound Name ℕ)) → rest ≡ all_bytes (map (λ b. given_name is_made b.given b.id) bs)
    → name_if t (given b.given b.id) ++ rest ≡ all_bytes (map (λ b. given_name is_made b.given b.id) (if t then b ∷ bs else bs))
bound_one true b rest bs e = ap (λ v. given b.given b.id ∷ v) e
bound_one false b rest bs e = e

bound_are : (s : Space) (bs : List (Bound Name ℕ)) → bound_names s bs ≡ all_bytes (map (λ b. given_name is_made b.given b.id) (filter (λ b. same_space s b.space) bs))
bound_are s [] = refl
bound_are s (b ∷ bs) = bound_one (same_space s b.space) b (bound_names s bs) (filter (λ b. same_space s b.space) bs) (bound_are s bs)

-- the maps of items are those of the names that are gathered
pub items_meant : (given_as : Option (List ℕ)) (id : Option (Named Name ℕ)) (fs : List (Field Name ℕ)) (space : binary.Space) → named (bound_names (space_of space) (flat_map items fs)) ≡ (maps_in given_as id fs).items space
items_meant given_as id fs space =
    ap named (bound_are (space_of space) (flat_map items fs))
    ∙ sym (named_with bytes_of 0 (map (λ b. given_name is_made b.given b.id) (items_in (space_of space) fs)))

-- LOCALS
local_seen : (ls : List (Local Name ℕ)) → all_bytes (meant.local_names is_made ls) ≡ local_names ls
local_seen ls = map-map (option_map bytes_of) (λ l. given_name is_made l.given l.id) ls

sig_seen : (s : Option (Sig Name ℕ)) → all_bytes (meant.param_names is_made s) ≡ sig_names s
sig_seen s = local_seen (unwrap_or s no_sig).params

abbrev unnamed : {A : Type 0} → List A → List (Option (Named Name ℕ))
unnamed xs = map (λ p. None) xs

nones : {A : Type 0} (xs : List A) → all_bytes (map (λ p. None) (unnamed xs)) ≡ replicate (length xs) None
nones [] = refl
nones (x ∷ xs) = ap (λ v. None ∷ v) (nones xs)

-- a scope in which types have as many parameters as these counts say
abbrev Counts : Scope Name ℕ → List ℕ → Type 0
Counts s counts = (n : ℕ) → length (unwrap_or (s.sig_of n) no_sig).params ≡ unwrap_or (slice_get counts n) 0

abbrev use_names : Scope Name ℕ → TypeUse Name ℕ → List (Option (GivenName Name))
use_names s u = elim u.inline [ Some sig ↦ meant.param_names is_made (Some sig) | None ↦ map (λ p. None) (params_of s u) ]

use_seen : (s : Scope Name ℕ) (counts : List ℕ) → Counts s counts → (index : Option (Reference Name ℕ)) (inline : Option (Sig Name ℕ)) → has_number index ≡ true
    → all_bytes (use_names s (record { index = index; inline = inline })) ≡ params_by counts (record { index = index; inline = inline })
use_seen s counts k index (Some sig) h = local_seen sig.params
use_seen s counts k None None h = cc
use_seen s counts k (Some (ByName id)) None h = cc
use_seen s counts k (Some (ByNumber n p)) None h = nones (unwrap_or (s.sig_of n) no_sig).params ∙ ap (λ count. replicate count None) (k n)

function_seen : (s : Scope Name ℕ) (counts : List ℕ) → Counts s counts → (f : Function Name ℕ) → has_number f.type_use.index ≡ true → all_bytes (names_of_locals is_made s (Some f)) ≡ locals_by counts (Some f)
function_seen s counts k f h =
    map-append (option_map bytes_of) (use_names s f.type_use) (meant.local_names is_made f.locals)
    ∙ (λ i. use_seen s counts k f.type_use.index f.type_use.inline h i ++ local_seen f.locals i)

module _ (s : Scope Name ℕ) (counts : List ℕ) (k : Counts s counts) where
  abbrev meant_of : Option (Function Name ℕ) → List (Option (List ℕ))
  meant_of o = all_bytes (names_of_locals is_made s o)

  none_imported : (ts : List (ExternType Name ℕ)) → map meant_of (flat_map imported_function ts) ≡ map (locals_by counts) (flat_map imported_function ts)
  none_imported [] = refl
  none_imported (OfFunc u ∷ ts) = ap (λ v. [] ∷ v) (none_imported ts)
  none_imported (OfExactFunc u ∷ ts) = ap (λ v. [] ∷ v) (none_imported ts)
  none_imported (OfTable t ∷ ts) = none_imported ts
  none_imported (OfMemory t ∷ ts) = none_imported ts
  none_imported (OfGlobal t ∷ ts) = none_imported ts
  none_imported (OfTag u ∷ ts) = none_imported ts

  field_seen : (f : Field Name ℕ) → list_all is_settled (field_mentions f) ≡ true → map meant_of (bodies_in f) ≡ map (locals_by counts) (bodies_in f)
  field_seen (ImportField i) h = none_imported (meant.imported i.items)
  field_seen (Define d) h = of d.defined refl
    where
      of : (x : Defined Name ℕ) → d.defined ≡ x → map meant_of (defined_function x) ≡ map (locals_by counts) (defined_function x)
      of (Func f) e =
          let whole : list_all is_settled ((Uses f.type_use ∷ local_mentions f.locals ++ expr_mentions f.body) ++ []) ≡ true = ap (λ x. list_all is_settled (field_mentions (Define (record d { defined = x })))) (sym e) ∙ h in
          let used = left (is_settled (Uses f.type_use)) (list_all is_settled ((local_mentions f.locals ++ expr_mentions f.body) ++ [])) whole in
          ap (λ v. v ∷ []) (function_seen s counts k f (left (has_number f.type_use.index) _ used))
      of (Imported from name t) e = refl
      of (Table t init) e = refl
      of (TableOf wide t es) e = refl
      of (Memory t) e = refl
      of (MemoryOf wide page vs) e = refl
      of (Global t init) e = refl
      of (Tag u) e = refl
  field_seen (TypeField t) h = refl
  field_seen (RecField r) h = refl
  field_seen (ExportField x) h = refl
  field_seen (StartField x) h = refl
  field_seen (ElemField x) h = refl
  field_seen (DataField x) h = refl
  field_seen (CustomField x) h = refl

  fields_seen : (fs : List (Field Name ℕ)) → are_settled fs ≡ true → map meant_of (flat_map bodies_in fs) ≡ map (locals_by counts) (flat_map bodies_in fs)
  fields_seen [] h = refl
  fields_seen (f ∷ fs) h =
      map-append meant_of (bodies_in f) (flat_map bodies_in fs)
      ∙ (λ i. field_seen f (left (list_all is_settled (field_mentions f)) (are_settled fs) h) i ++ fields_seen fs (right (list_all is_settled (field_mentions f)) (are_settled fs) h) i)
      ∙ sym (map-append (locals_by counts) (bodies_in f) (flat_map bodies_in fs))

-- the counts of the types that fields write
abbrev counts_in : List (Field Name ℕ) → List ℕ
counts_in fs = map param_count (flat_map written_types fs)

sig_count : (x : InnerType Name ℕ) → length (unwrap_or (func_sig x) no_sig).params ≡ inner_count x
sig_count (FuncType s) = refl
sig_count x = refl

type_count : (o : Option (TypeItem Name ℕ × Bool)) → length (unwrap_or (option_and_then (λ s. s) (option_map (λ t. func_sig t.0.definition.comp.inner) o)) no_sig).params ≡ unwrap_or (option_map param_count o) 0
type_count None = refl
type_count (Some t) = sig_count t.0.definition.comp.inner

scope_counts : (fs : List (Field Name ℕ)) → are_settled fs ≡ true → Counts (scope_of same_name fs) (counts_in fs)
scope_counts fs h n =
    let types = flat_map written_types fs in
    ap (λ s. length (unwrap_or s no_sig).params)
    (ap (λ is. option_and_then (λ s. s) (slice_get (map (λ t. func_sig t.0.definition.comp.inner) types ++ map (λ s. Some s.1) is) n)) (none_implied same_name fs h)
    ∙ ap (λ l. option_and_then (λ s. s) (slice_get l n)) (append-nil (map (λ t. func_sig t.0.definition.comp.inner) types))
    ∙ ap (option_and_then (λ s. s)) (slice_get-map (λ t. func_sig t.0.definition.comp.inner) types n))
    ∙ type_count (slice_get types n)
    ∙ ap (λ o. unwrap_or o 0) (sym (slice_get-map param_count types n))

-- LABELS
opened_seen : (t : Turn) (id : Option (Named Name ℕ)) → all_bytes (opener_name is_made t id) ≡ opened_name t id
opened_seen Opens id = refl
opened_seen Closes id = refl
opened_seen Stays id = refl

instrs_seen : (is : List (Instruction Name ℕ)) → all_bytes (flat_map (λ i. opener_name is_made (turn_of_head i.head) (own_label i.operands)) is) ≡ flat_map label_names is
instrs_seen [] = refl
instrs_seen (x ∷ xs) =
    map-append (option_map bytes_of) (opener_name is_made (turn_of_head x.head) (own_label x.operands)) (flat_map (λ i. opener_name is_made (turn_of_head i.head) (own_label i.operands)) xs)
    ∙ (λ i. opened_seen (turn_of_head x.head) (own_label x.operands) i ++ instrs_seen xs i)

abbrev labels_of : Option (Function Name ℕ) → List (Option (List ℕ))
labels_of None = []
labels_of (Some f) = flat_map label_names f.body.instrs

labels_seen : (o : Option (Function Name ℕ)) → all_bytes (names_of_labels is_made o) ≡ labels_of o
labels_seen None = refl
labels_seen (Some f) = instrs_seen f.body.instrs

-- FIELDS: the items that are types are those that are written
kinds_apart : (k : exports.ExportKind) → same_space Types (space_of_kind k) ≡ false
kinds_apart exports.Func = refl
kinds_apart exports.Table = refl
kinds_apart exports.Memory = refl
kinds_apart exports.Global = refl
kinds_apart exports.Tag = refl

abbrev types_in : List (Field Name ℕ) → List (TypeItem Name ℕ)
types_in fs = map (λ t. t.0) (flat_map written_types fs)

abbrev is_type : Bound Name ℕ → Bool
is_type b = same_space Types b.space

passed : (b : Bound Name ℕ) (bs : List (Bound Name ℕ)) → is_type b ≡ false → filter is_type (b ∷ bs) ≡ filter is_type bs
passed b bs h = ap (λ t. if t then b ∷ filter is_type bs else filter is_type bs) h

none_each : {B : Type 0} (g : B → Bound Name ℕ) (xs : List B) → ((x : B) → is_type (g x) ≡ false) → filter is_type (map g xs) ≡ []
none_each g [] h = refl
none_each g (x ∷ xs) h = passed (g x) (map g xs) (h x) ∙ none_each g xs h

all_each : (ts : List (TypeItem Name ℕ)) → filter is_type (map bound_type ts) ≡ map bound_type (map (λ (t : TypeItem Name ℕ × Bool). t.0) (map (λ t. (t, true)) ts))
all_each [] = refl
all_each (t ∷ ts) = ap (λ v. bound_type t ∷ v) (all_each ts)

none_behind : (d : Defined Name ℕ) → filter is_type (bound_segment d) ≡ []
none_behind (TableOf wide t es) = refl
none_behind (MemoryOf wide page vs) = refl
none_behind d = refl

import_types : (i : ImportItems Name ℕ) → filter is_type (bound_imports i) ≡ []
import_types (Single name i) = passed (bound_import i) [] (kinds_apart (kind_of_type i.extern_type))
import_types (Group1 is) = none_each (λ i. bound_import i.1) is (λ i. kinds_apart (kind_of_type i.1.extern_type))
import_types (Group2 names i) = none_each (λ name. bound_import i) names (λ name. kinds_apart (kind_of_type i.extern_type))

types_of_field : (f : Field Name ℕ) → filter is_type (items f) ≡ map bound_type (map (λ t. t.0) (written_types f))
types_of_field (TypeField t) = refl
types_of_field (RecField r) = all_each r.types
types_of_field (ImportField i) = import_types i.items
types_of_field (Define d) = passed (bound (space_of_kind (kind_of d.defined)) d.id d.given) (bound_segment d.defined) (kinds_apart (kind_of d.defined)) ∙ none_behind d.defined
types_of_field (ElemField e) = refl
types_of_field (DataField d) = refl
types_of_field f = refl

types_are : (fs : List (Field Name ℕ)) → items_in Types fs ≡ map bound_type (types_in fs)
types_are [] = refl
types_are (f ∷ fs) =
    filter-append is_type (items f) (flat_map items fs)
    ∙ (λ i. types_of_field f i ++ types_are fs i)
    ∙ sym (map-append bound_type (map (λ t. t.0) (written_types f)) (types_in fs))
    ∙ ap (map bound_type) (sym (map-append (λ t. t.0) (written_types f) (flat_map written_types fs)))

-- GROUPS, field by field
gathered : {F X G : Type 0} (part : F → List X) (h : X → G) (of : F → List G) → ((f : F) → map h (part f) ≡ of f) → (fs : List F) → map h (flat_map part fs) ≡ flat_map of fs
gathered part h of e [] = refl
gathered part h of e (f ∷ fs) = map-append h (part f) (flat_map part fs) ∙ (λ i. e f i ++ gathered part h of e fs i)

none_of : {X G : Type 0} (g : X → List G) → ((x : X) → g x ≡ []) → (xs : List X) → [] ≡ flat_map g xs
none_of g e [] = refl
none_of g e (x ∷ xs) = none_of g e xs ∙ ap (λ v. v ++ flat_map g xs) (sym (e x))

abbrev Names : Type 0
Names = List (Option (List ℕ))

module _ (kind : binary.InnerSpace) (counts : List ℕ) where
  -- where functions are asked
  module _ (h : Option (Function Name ℕ) → Names) (some : (f : Function Name ℕ) → h (Some f) ∷ [] ≡ function_groups kind counts f) (none : h None ∷ [] ≡ nameless_groups kind)
      (tag : (u : TypeUse Name ℕ) → tag_groups kind u ≡ []) (type : (t : TypeItem Name ℕ) → type_groups kind t ≡ []) where
    functions_imported : (ts : List (ExternType Name ℕ)) → map h (flat_map imported_function ts) ≡ flat_map (import_groups kind) ts
    functions_imported [] = refl
    functions_imported (OfFunc u ∷ ts) = λ i. none i ++ functions_imported ts i
    functions_imported (OfExactFunc u ∷ ts) = λ i. none i ++ functions_imported ts i
    functions_imported (OfTable t ∷ ts) = functions_imported ts
    functions_imported (OfMemory t ∷ ts) = functions_imported ts
    functions_imported (OfGlobal t ∷ ts) = functions_imported ts
    functions_imported (OfTag u ∷ ts) = functions_imported ts ∙ ap (λ v. v ++ flat_map (import_groups kind) ts) (sym (tag u))

    functions_defined : (d : Defined Name ℕ) → map h (defined_function d) ≡ defined_groups kind counts d
    functions_defined (Func f) = some f
    functions_defined (Tag u) = sym (tag u)
    functions_defined d = refl

    functions_in : (f : Field Name ℕ) → map h (bodies_in f) ≡ field_groups kind counts f
    functions_in (TypeField t) = sym (type t)
    functions_in (RecField r) = none_of (type_groups kind) type r.types
    functions_in (ImportField i) = functions_imported (meant.imported i.items)
    functions_in (Define d) = functions_defined d.defined
    functions_in f = refl

  -- where types are
  module _ (h : TypeItem Name ℕ × Bool → Names) (some : (t : TypeItem Name ℕ) (b : Bool) → h (t, b) ∷ [] ≡ type_groups kind t) (none : nameless_groups kind ≡ [])
      (tag : (u : TypeUse Name ℕ) → tag_groups kind u ≡ []) (function : (f : Function Name ℕ) → function_groups kind counts f ≡ []) where
    types_grouped : (ts : List (TypeItem Name ℕ)) → map h (map (λ t. (t, true)) ts) ≡ flat_map (type_groups kind) ts
    types_grouped [] = refl
    types_grouped (t ∷ ts) = λ i. some t true i ++ types_grouped ts i

    not_imported : (t : ExternType Name ℕ) → import_groups kind t ≡ []
    not_imported (OfFunc u) = none
    not_imported (OfExactFunc u) = none
    not_imported (OfTag u) = tag u
    not_imported t = refl

    not_defined : (d : Defined Name ℕ) → defined_groups kind counts d ≡ []
    not_defined (Func f) = function f
    not_defined (Tag u) = tag u
    not_defined d = refl

    types_written : (f : Field Name ℕ) → map h (written_types f) ≡ field_groups kind counts f
    types_written (TypeField t) = some t false
    types_written (RecField r) = types_grouped r.types
    types_written (ImportField i) = none_of (import_groups kind) not_imported (meant.imported i.items)
    types_written (Define d) = sym (not_defined d.defined)
    types_written f = refl

-- and where tags are
module _ (counts : List ℕ) where
  abbrev tag_names : TypeUse Name ℕ → Names
  tag_names u = sig_names u.inline

  tags_imported : (ts : List (ExternType Name ℕ)) → map tag_names (flat_map imported_tag ts) ≡ flat_map (import_groups binary.TagParameters) ts
  tags_imported [] = refl
  tags_imported (OfFunc u ∷ ts) = tags_imported ts
  tags_imported (OfExactFunc u ∷ ts) = tags_imported ts
  tags_imported (OfTable t ∷ ts) = tags_imported ts
  tags_imported (OfMemory t ∷ ts) = tags_imported ts
  tags_imported (OfGlobal t ∷ ts) = tags_imported ts
  tags_imported (OfTag u ∷ ts) = ap (λ v. sig_names u.inline ∷ v) (tags_imported ts)

  tags_defined : (d : Defined Name ℕ) → map tag_names (meant.defined_tag d) ≡ defined_groups binary.TagParameters counts d
  tags_defined (Func f) = refl
  tags_defined (Tag u) = refl
  tags_defined d = refl

  tags_of : (f : Field Name ℕ) → map tag_names (tags_in f) ≡ field_groups binary.TagParameters counts f
  tags_of (TypeField t) = refl
  tags_of (RecField r) = none_of (type_groups binary.TagParameters) (λ t. refl) r.types
  tags_of (ImportField i) = tags_imported (meant.imported i.items)
  tags_of (Define d) = tags_defined d.defined
  tags_of f = refl

-- the maps of what is inside of items are those of the names that are gathered
module _ (fs : List (Field Name ℕ)) where
  abbrev groups_for : binary.InnerSpace → List Names
  groups_for kind = flat_map (field_groups kind (counts_in fs)) fs

  locals_meant : are_settled fs ≡ true → map all_bytes (map (names_of_locals is_made (scope_of same_name fs)) (flat_map bodies_in fs)) ≡ groups_for binary.Locals
  locals_meant h =
      map-map all_bytes (names_of_locals is_made (scope_of same_name fs)) (flat_map bodies_in fs)
      ∙ fields_seen (scope_of same_name fs) (counts_in fs) (scope_counts fs h) fs h
      ∙ gathered bodies_in (locals_by (counts_in fs)) (field_groups binary.Locals (counts_in fs))
      (functions_in binary.Locals (counts_in fs) (locals_by (counts_in fs)) (λ f. refl) refl (λ u. refl) (λ t. refl)) fs

  labels_meant : map all_bytes (map (names_of_labels is_made) (flat_map bodies_in fs)) ≡ groups_for binary.Labels
  labels_meant =
      map-map all_bytes (names_of_labels is_made) (flat_map bodies_in fs)
      ∙ (λ i. map (λ o. labels_seen o i) (flat_map bodies_in fs))
      ∙ gathered bodies_in labels_of (field_groups binary.Labels (counts_in fs)) (functions_in binary.Labels (counts_in fs) labels_of (λ f. refl) refl (λ u. refl) (λ t. refl)) fs

  abbrev field_names : TypeItem Name ℕ × Bool → Names
  field_names t = map identified (fields_of t.0.definition.comp.inner)

  fields_meant : map all_bytes (map (λ b. map (identifier is_made) b.fields) (items_in Types fs)) ≡ groups_for binary.Fields
  fields_meant =
      map-map all_bytes (λ b. map (identifier is_made) b.fields) (items_in Types fs)
      ∙ ap (map (λ b. all_bytes (map (identifier is_made) b.fields))) (types_are fs)
      ∙ map-map (λ b. all_bytes (map (identifier is_made) b.fields)) bound_type (types_in fs)
      ∙ map-map (λ t. all_bytes (map (identifier is_made) (fields_of t.definition.comp.inner))) (λ t. t.0) (flat_map written_types fs)
      ∙ (λ i. map (λ t. map-map (option_map bytes_of) (identifier is_made) (fields_of t.0.definition.comp.inner) i) (flat_map written_types fs))
      ∙ gathered written_types field_names (field_groups binary.Fields (counts_in fs)) (types_written binary.Fields (counts_in fs) field_names (λ t b. refl) refl (λ u. refl) (λ f. refl)) fs

  abbrev type_params : TypeItem Name ℕ × Bool → Names
  type_params t = sig_names (func_sig t.0.definition.comp.inner)

  params_meant : map all_bytes (map (λ t. meant.param_names is_made (func_sig t.0.definition.comp.inner)) (flat_map written_types fs)) ≡ groups_for binary.Parameters
  params_meant =
      map-map all_bytes (λ t. meant.param_names is_made (func_sig t.0.definition.comp.inner)) (flat_map written_types fs)
      ∙ (λ i. map (λ t. sig_seen (func_sig t.0.definition.comp.inner) i) (flat_map written_types fs))
      ∙ gathered written_types type_params (field_groups binary.Parameters (counts_in fs)) (types_written binary.Parameters (counts_in fs) type_params (λ t b. refl) refl (λ u. refl) (λ f. refl)) fs

  tag_params_meant : map all_bytes (map (λ u. meant.param_names is_made u.inline) (flat_map tags_in fs)) ≡ groups_for binary.TagParameters
  tag_params_meant =
      map-map all_bytes (λ u. meant.param_names is_made u.inline) (flat_map tags_in fs)
      ∙ (λ i. map (λ u. sig_seen u.inline i) (flat_map tags_in fs))
      ∙ gathered tags_in (tag_names (counts_in fs)) (field_groups binary.TagParameters (counts_in fs)) (tags_of (counts_in fs)) fs

  groups_meant : (groups : List (List (Option (GivenName Name)))) (kind : binary.InnerSpace) → map all_bytes groups ≡ groups_for kind → inner_named (groups_for kind) ≡ map (inner_with bytes_of) (inner_named groups)
  groups_meant groups kind e = sym (inner_named_with bytes_of 0 groups ∙ ap inner_named e)

  pub inside_meant : (given_as : Option (List ℕ)) (id : Option (Named Name ℕ)) → are_settled fs ≡ true → (kind : binary.InnerSpace)
      → inner_named (flat_map (field_groups kind (map param_count (flat_map written_types fs))) fs) ≡ (maps_in given_as id fs).inner kind
  inside_meant given_as id h binary.Locals = groups_meant (map (names_of_locals is_made (scope_of same_name fs)) (flat_map bodies_in fs)) binary.Locals (locals_meant h)
  inside_meant given_as id h binary.Labels = groups_meant (map (names_of_labels is_made) (flat_map bodies_in fs)) binary.Labels labels_meant
  inside_meant given_as id h binary.Fields = groups_meant (map (λ b. map (identifier is_made) b.fields) (items_in Types fs)) binary.Fields fields_meant
  inside_meant given_as id h binary.Parameters = groups_meant (map (λ t. meant.param_names is_made (func_sig t.0.definition.comp.inner)) (flat_map written_types fs)) binary.Parameters params_meant
  inside_meant given_as id h binary.TagParameters = groups_meant (map (λ u. meant.param_names is_made u.inline) (flat_map tags_in fs)) binary.TagParameters tag_params_meant
