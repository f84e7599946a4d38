-- What code has in fields, as what is gathered from their trees.
use Rattle.std.proofs.Common.{ℕ, ◌≡◌, true, false, List, [], ◌∷◌, ◌++◌, map, Option, Result, refl, sym, ap, subst, ◌∙◌, append-nil}
use Rattle.std.specs.Prelude.{nat_eq, option_map}
use Rattle.std.specs.List.{flat_map}
use Rattle.std.proofs.lemmas.Grind.{flat_map-append}
use Rattle.wasm_encoder_bytes.specs.declared.error.EncodeError.{EncodeError}
use Rattle.wasm_encoder_bytes.specs.declared.error.EncodeError.TheVariants.{TooLarge}
use Rattle.wasm_encoder_base.specs.Table.{Space}
use Rattle.wasm_encoder_custom.specs.Names.{InnerSpace}
use Rattle.wast_grammar.specs.Tokens.{Name}
use Rattle.wast_parser.specs.Identifiers.{identifier_tree}
use Rattle.wast_parser_base.specs.Identifier.{Identifier}
use Rattle.wast_parser_base.specs.declared.index.NameAnnotation.{NameAnnotation}
use Rattle.wast_value_types.specs.declared.val_type.ValType.{ValType}
use Rattle.wast_signatures.specs.SignatureViews.{name_tree, struct_field_tree}
use Rattle.wast_core_types.specs.TypeViews.{item_tree as type_tree}
use Rattle.wast_core_types.specs.declared.composite.InnerTypeKind.TheVariants as kinds
use Rattle.wast_signatures.specs.declared.struct_field.StructField.{StructField}
use Rattle.wast_core_types.specs.declared.definition.TypeItem.{TypeItem}
use Rattle.wast_core_instr.specs.InstructionViews.{instruction_tree}
use Rattle.wast_core_instr.specs.declared.instruction.Instruction.{Instruction}
use Rattle.wast_imports.specs.ImportViews.{extern_tree, item_tree, member_tree, member_name_tree}
use Rattle.wast_imports.specs.declared.item.ItemSig.{ItemSig}
use Rattle.wast_imports.specs.declared.import.ImportGroup1Item.{ImportGroup1Item}
use Rattle.wast_imports.specs.declared.import.ImportGroup2Item.{ImportGroup2Item}
use Rattle.wast_module_fields.specs.Local.{Local}
use Rattle.wast_module_fields.specs.ModuleFieldViews.{field_tree}
use Rattle.wast_module_fields.specs.declared.field.ModuleField.{ModuleField}
use Rattle.wast_meaning.specs.Spaces.{Bound, bound_import, bound_type, items, space_number, same_space}
use Rattle.wast_meaning.specs.Views.{space_view}
use Rattle.wast_meaning.specs.contracts.space.Space.{the_type}
use Rattle.wast_meaning.specs.declared.space.Space.{Space as CodeSpace}
use Rattle.wast_meaning.specs.declared.space.Space.TheVariants as spaces
use denote.Enum.Bare.{sameb}
use denote.Enum.Declared.{tag_of}
use Rattle.wast_meant.specs.NamesMeant.{naming}
use Rattle.wast_name_maps.specs.Gathered.{name_if, bound_names, label_names, type_groups, import_groups, field_groups}
use Rattle.wast_name_maps.specs.Given.{given, identified}
use Rattle.wast_name_maps.specs.Numbered.{Numbered, Fit, NameFits, NamesJoined, NamesJoin}
use Rattle.wast_spaces.proofs.Written.{viewed}
use Rattle.wast_name_maps.proofs.Joining.{flat_of, joins_then, unfit_front}

-- WHAT ELEMENTS OF THE CODE BRING
abbrev pub field_names : Space → ModuleField → List (Option (List ℕ))
field_names s f = bound_names s (items (field_tree f))

abbrev pub type_names : Space → TypeItem → List (Option (List ℕ))
type_names s t = bound_names s (bound_type (type_tree t) ∷ [])

abbrev pub member_names : Space → ImportGroup1Item → List (Option (List ℕ))
member_names s m = bound_names s (bound_import (item_tree m.sig) ∷ [])

abbrev pub names_of_each : Space → ItemSig → ImportGroup2Item → List (Option (List ℕ))
names_of_each s sig m = bound_names s (bound_import (item_tree sig) ∷ [])

abbrev pub struct_names : StructField → List (Option (List ℕ))
struct_names f = identified (option_map identifier_tree f.id) ∷ []

abbrev pub param_names : Option Identifier × Option NameAnnotation × ValType → List (Option (List ℕ))
param_names p = given (option_map name_tree p.1) (option_map identifier_tree p.0) ∷ []

abbrev pub local_name : Local → List (Option (List ℕ))
local_name l = given (option_map name_tree l.name) (option_map identifier_tree l.id) ∷ []

abbrev pub code_labels : Instruction → List (Option (List ℕ))
code_labels i = label_names (instruction_tree i)

abbrev pub code_groups : InnerSpace → List ℕ → ModuleField → List (List (Option (List ℕ)))
code_groups k counts f = field_groups k counts (field_tree f)

abbrev pub item_groups : InnerSpace → TypeItem → List (List (Option (List ℕ)))
item_groups k t = type_groups k (type_tree t)

abbrev pub member_groups : InnerSpace → ImportGroup1Item → List (List (Option (List ℕ)))
member_groups k m = import_groups k (extern_tree m.sig.kind)

abbrev pub groups_of_each : InnerSpace → ItemSig → ImportGroup2Item → List (List (Option (List ℕ)))
groups_of_each k sig m = import_groups k (extern_tree sig.kind)

-- ITEMS of fields, of lists whose elements are one each
pub fields_bound : (s : Space) (fs : List ModuleField) → flat_map (field_names s) fs ≡ bound_names s (flat_map items (map field_tree fs))
fields_bound s fs = viewed field_tree (λ f. bound_names s (items f)) fs ∙ flat_of (λ b. name_if (same_space s b.space) (given b.given b.id)) items (map field_tree fs)

pub each_bound : {X Y : Type 0} (s : Space) (view : X → Y) (of : Y → Bound Name ℕ) (xs : List X) → flat_map (λ x. bound_names s (of (view x) ∷ [])) xs ≡ bound_names s (map of (map view xs))
each_bound s view of [] = refl
each_bound s view of (x ∷ xs) =
    let b = of (view x) in
    λ i. append-nil (name_if (same_space s b.space) (given b.given b.id)) i ++ each_bound s view of xs i

pub wanted_names : (s : Space) (b : Bound Name ℕ) → same_space s b.space ≡ true → given b.given b.id ∷ [] ≡ bound_names s (b ∷ [])
wanted_names s b e = ap (λ t. name_if t (given b.given b.id) ++ []) (sym e)

pub unwanted_names : (s : Space) (b : Bound Name ℕ) → same_space s b.space ≡ false → [] ≡ bound_names s (b ∷ [])
unwanted_names s b e = ap (λ t. name_if t (given b.given b.id) ++ []) (sym e)

bound_then : (s : Space) (xs ys all : List (Bound Name ℕ)) → all ≡ xs ++ ys → bound_names s xs ++ bound_names s ys ≡ bound_names s all
bound_then s xs ys all e = sym (ap (bound_names s) e ∙ flat_map-append (λ b. name_if (same_space s b.space) (given b.given b.id)) xs ys)

-- a definition, and the segment that stands inline
pub unfit_definition : (s : Space) (old : Numbered) (xs ys all : List (Bound Name ℕ)) (e : EncodeError) → all ≡ xs ++ ys → (e ≡ TooLarge → ¬ Fit naming NameFits old (bound_names s xs)) → e ≡ TooLarge
    → ¬ Fit naming NameFits old (bound_names s all)
unfit_definition s old xs ys all e same h = subst (λ ns. e ≡ TooLarge → ¬ Fit naming NameFits old ns) (bound_then s xs ys all same) (unfit_front old (bound_names s xs) (bound_names s ys) e h)

pub join_definition : {T : Type 0} (r : Result T EncodeError) (s : Space) (old mid new : Numbered) (xs ys all : List (Bound Name ℕ)) → all ≡ xs ++ ys → NamesJoined old mid (bound_names s xs) → NamesJoin r mid new (bound_names s ys)
    → NamesJoin r old new (bound_names s all)
join_definition r s old mid new xs ys all same first second = subst (NamesJoin r old new) (bound_then s xs ys all same) (joins_then r old mid new (bound_names s xs) (bound_names s ys) first second)

-- IMPORTS of a group
members_imported : (ms : List ImportGroup1Item) → map (λ m. extern_tree m.sig.kind) ms ≡ map (λ i. i.1.extern_type) (map member_tree ms)
members_imported [] = refl
members_imported (m ∷ ms) = ap (λ v. extern_tree m.sig.kind ∷ v) (members_imported ms)

each_imported : (sig : ItemSig) (ms : List ImportGroup2Item) → map (λ m. extern_tree sig.kind) ms ≡ map (λ name. extern_tree sig.kind) (map member_name_tree ms)
each_imported sig [] = refl
each_imported sig (m ∷ ms) = ap (λ v. extern_tree sig.kind ∷ v) (each_imported sig ms)

pub members_grouped : (k : InnerSpace) (ms : List ImportGroup1Item) → flat_map (member_groups k) ms ≡ flat_map (import_groups k) (map (λ i. i.1.extern_type) (map member_tree ms))
members_grouped k ms = viewed (λ m. extern_tree m.sig.kind) (import_groups k) ms ∙ ap (flat_map (import_groups k)) (members_imported ms)

pub each_grouped : (k : InnerSpace) (sig : ItemSig) (ms : List ImportGroup2Item) → flat_map (groups_of_each k sig) ms ≡ flat_map (import_groups k) (map (λ name. extern_tree sig.kind) (map member_name_tree ms))
each_grouped k sig ms = viewed (λ m. extern_tree sig.kind) (import_groups k) ms ∙ ap (flat_map (import_groups k)) (each_imported sig ms)

-- FIELDS that have nothing inside

-- the fields of a structure
pub struct_named : (fs : List StructField) → flat_map struct_names fs ≡ map identified (map (λ f. f.id) (map struct_field_tree fs))
struct_named [] = refl
struct_named (f ∷ fs) = ap (λ v. identified (option_map identifier_tree f.id) ∷ v) (struct_named fs)

-- spaces are told apart by their numbers
pub tag_is : (s : CodeSpace) → tag_of the_type s ≡ space_number (space_view s)
tag_is spaces.Labels = refl
tag_is spaces.Locals = refl
tag_is spaces.Functions = refl
tag_is spaces.Types = refl
tag_is spaces.Tables = refl
tag_is spaces.Memories = refl
tag_is spaces.Globals = refl
tag_is spaces.Tags = refl
tag_is spaces.Datas = refl
tag_is spaces.Elems = refl
tag_is spaces.Fields = refl

pub same_spaces : (a b : CodeSpace) → sameb the_type a b ≡ same_space (space_view a) (space_view b)
same_spaces a b = λ i. nat_eq (tag_is a i) (tag_is b i)
