-- Where imports stand first, the functions of the index space are those that are imported, then those that are defined.
use Rattle.std.proofs.Common.{◌≡◌, ℕ, ◌+◌, Bool, true, List, [], ◌∷◌, ◌++◌, map, replicate, Option, Some, None, refl, sym, ◌∙◌, ap, append_assoc}
use Rattle.std.specs.Prelude.{not, option_map}
use Rattle.std.specs.List.{flat_map, list_all, sum_by}
use Rattle.std.proofs.lemmas.Bool.{false≢true}
use Rattle.std.proofs.lemmas.List.{append-nil, map-append, replicate-append-replicate}
use Rattle.std.proofs.lemmas.List.Sums.{sum_by-cons}
use Rattle.wasm_encoder_base.specs.Table.{Space}
use Rattle.wasm_encoder_items.specs.Imports as imports
use Rattle.wast_imports.specs.ImportTree.{ExternType, OfFunc, OfExactFunc, OfTable, OfMemory, OfGlobal, OfTag, Item, ImportItems, Single, Group1, Group2}
use Rattle.wast_module_fields.specs.FieldTree.{Function, Defined, Imported, Func, Field, TypeField, RecField, ImportField, Define, ExportField, StartField, ElemField, DataField, CustomField}
use Rattle.wast_names.specs.Walk.{first_unmet}
use Rattle.wast_names.specs.Demand.{is_met}
use Rattle.wast_meaning.specs.Written.{has_any, space_of_kind, kind_of}
use Rattle.wast_meaning.specs.Spaces.{items}
use Rattle.wast_meaning.specs.Scope.{scope_of}
use Rattle.wast_meaning.specs.Demands.{space_defined, nearest, order_demand, order_demands, item_demands, field_demands, demands, all_demands}
use Rattle.wast_meaning.specs.Numbered.{resolved}
use Rattle.wast_meaning.proofs.Settled.{left, right, back, two, front}
use Rattle.wasm_layout.specs.AbstractModule as abstract
use Rattle.wasm_layout.specs.Layout.{is_function, functions_in}
use Rattle.wast_conversions.specs.Types.{extern_meant}
use Rattle.wast_resolve_laws.proofs.Outlined.{order_from}
use Rattle.wast_resolve_laws.proofs.Plain.{stands_alone, is_plain, plain_stays}
use Rattle.wast_resolve_laws.proofs.Resolved.{resolved_met}
use Rattle.wast_resolve_laws.proofs.Unmet.{all_met}
use Rattle.wast_meant.specs.FieldsMeant.{import_of, imports_of, defined_in, function_of, functions_of}
use Rattle.wast_meant.specs.NamesMeant.{imported, imported_function, defined_function, bodies_in}
use Rattle.wast_encode_laws.proofs.Ready.{resolved_plain}

-- so many functions without a body
abbrev absent : ℕ → List (Option abstract.Function)
absent n = replicate n None

module _ {N P : Type 0} where
  -- the functions of the index space, as they are meant, and what sections say of them
  abbrev pub meant_of : Option (Function N P) → Option abstract.Function
  meant_of o = option_map function_of o

  abbrev pub bodies : List (Field N P) → List (Option abstract.Function)
  bodies fs = map meant_of (flat_map bodies_in fs)

  abbrev pub imported_in : List (Field N P) → ℕ
  imported_in fs = sum_by functions_in (flat_map imports_of fs)

  abbrev pub defined_functions : List (Field N P) → List abstract.Function
  defined_functions fs = flat_map functions_of (flat_map defined_in fs)

  abbrev pub sections_of : List (Field N P) → List (Option abstract.Function)
  sections_of fs = replicate (imported_in fs) None ++ map (λ f. Some f) (defined_functions fs)

  -- THE ORDER OF IMPORTS
  abbrev Ordered : Option Space → List (Field N P) → Type 0
  Ordered before fs = list_all is_met (order_from before fs) ≡ true

  -- behind a definition there is none
  behind : (s : Space) (fs : List (Field N P)) → ((t : Space) → Ordered (Some t) fs → flat_map imports_of fs ≡ []) → (o : Option Space) → Ordered (elim o [ Some t ↦ Some t | None ↦ Some s ]) fs → flat_map imports_of fs ≡ []
  behind s fs none None e = none s e
  behind s fs none (Some t) e = none t e

  no_imports : (s : Space) (fs : List (Field N P)) → Ordered (Some s) fs → flat_map imports_of fs ≡ []
  no_imports s [] e = refl
  no_imports s (ImportField i ∷ fs) e = elim (false≢true e) [ ]
  no_imports s (Define d ∷ fs) e =
      behind s fs (λ t h. no_imports t fs h) (space_defined d.defined) (back is_met (order_demand (Some s) (Define d)) (order_from (nearest (Some s) (Define d)) fs) e)
  no_imports s (TypeField t ∷ fs) e = no_imports s fs e
  no_imports s (RecField r ∷ fs) e = no_imports s fs e
  no_imports s (ExportField x ∷ fs) e = no_imports s fs e
  no_imports s (StartField x ∷ fs) e = no_imports s fs e
  no_imports s (ElemField x ∷ fs) e = no_imports s fs e
  no_imports s (DataField d ∷ fs) e = no_imports s fs e
  no_imports s (CustomField c ∷ fs) e = no_imports s fs e

  after_definition : (d : Defined N P) (fs : List (Field N P)) → stands_alone d ≡ true → Ordered (elim (space_defined d) [ Some t ↦ Some t | None ↦ None ]) fs → flat_map imports_of fs ≡ []
  after_definition (Imported from name t) fs a e = elim (false≢true a) [ ]
  after_definition d fs a e = no_imports (space_of_kind (kind_of d)) fs e

  -- DEFINITIONS ALONE
  own_functions : (d : Defined N P) (fs : List (Field N P)) → bodies fs ≡ map (λ f. Some f) (defined_functions fs) →
      map meant_of (defined_function d ++ flat_map bodies_in fs) ≡ map (λ f. Some f) (functions_of d ++ defined_functions fs)
  own_functions (Func f) fs same = ap (λ l. Some (function_of f) ∷ l) same
  own_functions d fs same = same

  of_definitions : (fs : List (Field N P)) → flat_map imports_of fs ≡ [] → bodies fs ≡ map (λ f. Some f) (defined_functions fs)
  of_definitions [] e = refl
  of_definitions (ImportField i ∷ fs) e = cc
  of_definitions (Define d ∷ fs) e = own_functions d.defined fs (of_definitions fs e)
  of_definitions (TypeField t ∷ fs) e = of_definitions fs e
  of_definitions (RecField r ∷ fs) e = of_definitions fs e
  of_definitions (ExportField x ∷ fs) e = of_definitions fs e
  of_definitions (StartField x ∷ fs) e = of_definitions fs e
  of_definitions (ElemField x ∷ fs) e = of_definitions fs e
  of_definitions (DataField d ∷ fs) e = of_definitions fs e
  of_definitions (CustomField c ∷ fs) e = of_definitions fs e

  -- IMPORTS have no bodies
  type_absent : (t : ExternType N P) → map meant_of (imported_function t) ≡ absent (is_function (extern_meant t))
  type_absent (OfFunc u) = refl
  type_absent (OfExactFunc u) = refl
  type_absent (OfTable t) = refl
  type_absent (OfMemory t) = refl
  type_absent (OfGlobal t) = refl
  type_absent (OfTag u) = refl

  -- of several the first, and the others
  several : (t : ExternType N P) (ts : List (ExternType N P)) (n m : ℕ) → m ≡ is_function (extern_meant t) + n → map meant_of (flat_map imported_function ts) ≡ absent n →
      map meant_of (flat_map imported_function (t ∷ ts)) ≡ absent m
  several t ts n m count rest =
      map-append meant_of (imported_function t) (flat_map imported_function ts)
      ∙ two (λ a b. a ++ b) (type_absent t) rest
      ∙ replicate-append-replicate (is_function (extern_meant t)) n None
      ∙ ap absent (sym count)

  abbrev import_named : List ℕ × Item N P → imports.Named
  import_named i = record { name = i.0; type = extern_meant i.1.extern_type }

  group_absent : (is : List (List ℕ × Item N P)) → map meant_of (flat_map imported_function (map (λ i. i.1.extern_type) is)) ≡ absent (sum_by (λ i. is_function i.type) (map import_named is))
  group_absent [] = refl
  group_absent (i ∷ is) =
      several i.1.extern_type (map (λ (j : List ℕ × Item N P). j.1.extern_type) is) (sum_by (λ j. is_function j.type) (map import_named is)) (sum_by (λ j. is_function j.type) (map import_named (i ∷ is)))
      (sum_by-cons (λ j. is_function j.type) (import_named i) (map import_named is)) (group_absent is)

  alike_absent : (t : ExternType N P) (names : List (List ℕ)) → map meant_of (flat_map imported_function (map (λ name. t) names)) ≡ absent (sum_by (λ name. is_function (extern_meant t)) names)
  alike_absent t [] = refl
  alike_absent t (name ∷ names) =
      several t (map (λ (n : List ℕ). t) names) (sum_by (λ (n : List ℕ). is_function (extern_meant t)) names) (sum_by (λ (n : List ℕ). is_function (extern_meant t)) (name ∷ names))
      (sum_by-cons (λ (n : List ℕ). is_function (extern_meant t)) name names) (alike_absent t names)

  import_absent : (from : List ℕ) (is : ImportItems N P) → map meant_of (flat_map imported_function (imported is)) ≡ absent (functions_in (import_of from is))
  import_absent from (Single name i) = ap (λ l. map meant_of l) (append-nil (imported_function i.extern_type)) ∙ type_absent i.extern_type
  import_absent from (Group1 is) = group_absent is
  import_absent from (Group2 names i) = alike_absent i.extern_type names

  -- FUNCTIONS, those that are imported first
  placed : (fs : List (Field N P)) → list_all is_plain fs ≡ true → Ordered None fs → bodies fs ≡ sections_of fs
  placed [] a e = refl
  placed (ImportField i ∷ fs) a e =
      let here = import_of i.from i.items in
      map-append meant_of (flat_map imported_function (imported i.items)) (flat_map bodies_in fs)
      ∙ two (λ l r. l ++ r) (import_absent i.from i.items) (placed fs a e)
      ∙ sym (append_assoc (absent (functions_in here)) (absent (imported_in fs)) (map (λ f. Some f) (defined_functions fs)))
      ∙ ap (λ l. l ++ map (λ f. Some f) (defined_functions fs)) (replicate-append-replicate (functions_in here) (imported_in fs) None ∙ ap absent (sym (sum_by-cons functions_in here (flat_map imports_of fs))))
  placed (Define d ∷ fs) a e =
      let alone = right (not (has_any d.exports)) (stands_alone d.defined) (left (is_plain (Define d)) (list_all is_plain fs) a) in
      let none = after_definition d.defined fs alone (back is_met (order_demand None (Define d)) (order_from (nearest None (Define d)) fs) e) in
      of_definitions (Define d ∷ fs) none ∙ sym (ap (λ is. absent (sum_by functions_in is) ++ map (λ f. Some f) (defined_functions (Define d ∷ fs))) none)
  placed (TypeField t ∷ fs) a e = placed fs a e
  placed (RecField r ∷ fs) a e = placed fs a e
  placed (ExportField x ∷ fs) a e = placed fs a e
  placed (StartField x ∷ fs) a e = placed fs a e
  placed (ElemField x ∷ fs) a e = placed fs a e
  placed (DataField d ∷ fs) a e = placed fs a e
  placed (CustomField c ∷ fs) a e = placed fs a e

-- RESOLVED FIELDS, where all demands are met
module _ {N P : Type 0} (eq : N → N → Bool) (self : (n : N) → eq n n ≡ true) (sound : (m n : N) → eq m n ≡ true → m ≡ n) (naming : ℕ → N) (fs : List (Field N P)) where
  abbrev rs : List (Field N P)
  rs = resolved eq naming fs

  order_met : first_unmet is_met (all_demands eq naming fs) ≡ None → list_all is_met (order_demands rs) ≡ true
  order_met met =
      let again = ap (λ gs. first_unmet is_met (demands eq gs)) (sym (plain_stays naming rs (resolved_plain eq naming fs))) ∙ resolved_met eq self sound naming fs met naming in
      let all = all_met (demands eq rs) again in
      front is_met (order_demands rs) (item_demands eq (flat_map items rs)) (front is_met (order_demands rs ++ item_demands eq (flat_map items rs)) (flat_map (field_demands eq (scope_of eq rs)) rs) all)

  pub functions_placed : first_unmet is_met (all_demands eq naming fs) ≡ None → bodies rs ≡ sections_of rs
  functions_placed met = placed rs (resolved_plain eq naming fs) (order_met met)
