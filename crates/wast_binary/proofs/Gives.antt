-- What fields have in the section of a kind; the section is absent where none has anything.
use Rattle.std.proofs.Common.{◌≡◌, ℕ, suc, Bool, true, false, ◌||◌, List, [], ◌∷◌, ◌++◌, Option, Some, None, refl, sym, ap, ◌∙◌}
use Rattle.std.specs.Prelude.{is_some, slice_get}
use Rattle.std.specs.List.{flat_map, list_any, AllByRecursion}
use Rattle.std.proofs.lemmas.Bool.{false≢true, or_parts}
use Rattle.wast_grammar.specs.Tokens.{Name}
use Rattle.wast_parser.specs.Identifiers.{Named}
use Rattle.wast_imports.specs.ImportTree.{ExternType, OfFunc, OfExactFunc}
use Rattle.wast_module_fields.specs.FieldTree.{Function, Defined, Func, Field, ImportField, Define}
use Rattle.wasm_layout.specs.Present.{has_any, says_data, is_present}
use Rattle.wasm_layout.specs.Section.{SectionKind, Types, Imports, Functions, Tables, Memories, Tags, Globals, Exports, Starts, Elements, DataCount, Hints, Codes, Datas, Names}
use Rattle.wast_meant.specs.FieldsMeant.{types_of, imports_of, defined_in, functions_of, tables_of, memories_of, tags_of, globals_of, exports_of, starts_of, elements_of, datas_of}
use Rattle.wast_meant.specs.NamesMeant.{imported, imported_function, defined_function, bodies_in, hints_from}
use Rattle.wast_binary.specs.Gives.{defined_gives, gives}
use Rattle.wast_binary.specs.Parts.{module_of}
use Rattle.wast_name_maps.proofs.Joining.{flat_of}
use Rattle.wast_binary.proofs.Lists.{all_flat, all_of}

pub not_so : {A : Type 0} → true ≡ false → A
not_so e = absurd (false≢true (sym e))

-- lists that are joined have any where one of them has
any_both : {A : Type 0} (xs ys : List A) → has_any (xs ++ ys) ≡ (has_any xs || has_any ys)
any_both [] ys = refl
any_both (x ∷ xs) ys = refl

any_joined : {A B : Type 0} (part : A → List B) (xs : List A) → has_any (flat_map part xs) ≡ list_any (λ x. has_any (part x)) xs
any_joined part [] = refl
any_joined part (x ∷ xs) = any_both (part x) (flat_map part xs) ∙ ap (λ b. has_any (part x) || b) (any_joined part xs)

-- of a list without any
none_first : {A : Type 0} (xs : List A) → has_any xs ≡ false → is_some (slice_get xs 0) ≡ false
none_first [] e = refl
none_first (x ∷ xs) e = not_so e

none_passes : {A : Type 0} (test : A → Bool) (xs : List A) → has_any xs ≡ false → list_any test xs ≡ false
none_passes test [] e = refl
none_passes test (x ∷ xs) e = not_so e

module _ {N P : Type 0} where
  -- HINTS: a field without functions has no bodies
  abbrev Bodiless : Option (Function N P) → Type 0
  Bodiless o = o ≡ None

  import_bodiless : (t : ExternType N P) → AllByRecursion Bodiless (imported_function t)
  import_bodiless (OfFunc u) = (refl, tt)
  import_bodiless (OfExactFunc u) = (refl, tt)
  import_bodiless t = tt

  defined_bodiless : (d : Defined N P) → defined_gives Functions (d ∷ []) ≡ false → AllByRecursion Bodiless (defined_function d)
  defined_bodiless (Func f) e = not_so e
  defined_bodiless d e = tt

  field_bodiless : (f : Field N P) → gives Functions f ≡ false → AllByRecursion Bodiless (bodies_in f)
  field_bodiless (ImportField i) e = all_flat Bodiless imported_function (imported i.items) (all_of (λ t. AllByRecursion Bodiless (imported_function t)) (imported i.items) import_bodiless)
  field_bodiless (Define d) e = defined_bodiless d.defined e
  field_bodiless f e = tt

  all_bodiless : (fs : List (Field N P)) → list_any (gives Functions) fs ≡ false → AllByRecursion (λ f. AllByRecursion Bodiless (bodies_in f)) fs
  all_bodiless [] e = tt
  all_bodiless (f ∷ fs) e = let apart = or_parts (gives Functions f) (list_any (gives Functions) fs) e in (field_bodiless f apart.0, all_bodiless fs apart.1)

  no_hints : (n : ℕ) (os : List (Option (Function N P))) → AllByRecursion Bodiless os → has_any (hints_from n os) ≡ false
  no_hints n [] h = refl
  no_hints n (None ∷ os) h = no_hints (suc n) os h.1
  no_hints n (Some f ∷ os) h = let never : ⊥ = (let e = h.0 in cc) in absurd never

-- WHERE NO FIELD has anything
module _ (given : Option (List ℕ)) (id : Option (Named Name ℕ)) (fs : List (Field Name ℕ)) where
  of_defined : {B : Type 0} (part : Defined Name ℕ → List B) → list_any (λ f. has_any (flat_map part (defined_in f))) fs ≡ false → has_any (flat_map part (flat_map defined_in fs)) ≡ false
  of_defined part e = ap has_any (sym (flat_of part defined_in fs)) ∙ any_joined (λ f. flat_map part (defined_in f)) fs ∙ e

  -- but for names, which a module without fields may have
  abbrev pub Absent : SectionKind → Type 0
  Absent Names = Unit {0}
  Absent k = is_present (module_of given id fs) k ≡ false

  pub absent : (k : SectionKind) → list_any (gives k) fs ≡ false → Absent k
  absent Types e = any_joined types_of fs ∙ e
  absent Imports e = any_joined imports_of fs ∙ e
  absent Functions e = of_defined functions_of e
  absent Tables e = of_defined tables_of e
  absent Memories e = of_defined memories_of e
  absent Tags e = of_defined tags_of e
  absent Globals e = of_defined globals_of e
  absent Exports e = any_joined exports_of fs ∙ e
  absent Starts e = none_first (flat_map starts_of fs) (any_joined starts_of fs ∙ e)
  absent Elements e = any_joined elements_of fs ∙ e
  absent DataCount e = none_passes says_data (flat_map functions_of (flat_map defined_in fs)) (of_defined functions_of e)
  absent Hints e = no_hints 0 (flat_map bodies_in fs) (all_flat Bodiless bodies_in fs (all_bodiless fs e))
  absent Codes e = of_defined functions_of e
  absent Datas e = any_joined datas_of fs ∙ e
  absent Names e = tt
