-- The branch hints of the module meant stand on instructions of its functions, and rise.
use Rattle.std.proofs.Common.{◌≡◌, ℕ, suc, ◌+◌, ◌<◌, ◌≤◌, ◌^◌, Bool, true, List, [], ◌∷◌, ◌++◌, length, map, All, Option, Some, None, sym, ◌∙◌, ap, arith, subst}
use Rattle.std.specs.Prelude.{slice_get}
use Rattle.std.specs.List.{flat_map, AllByRecursion}
use Rattle.std.specs.Option.{option_flatten}
use Rattle.std.proofs.lemmas.List.{length-map}
use Rattle.std.proofs.lemmas.List.Elements.{All-nil, All-cons, All-head, All-tail, All-append}
use Rattle.wast_expressions.specs.Items as items
use Rattle.wast_imports.specs.ImportTree.{ExternType, OfFunc, OfExactFunc}
use Rattle.wast_module_fields.specs.FieldTree.{Function, Defined, Func, Field, ImportField, Define}
use Rattle.wast_names.specs.Walk.{first_unmet}
use Rattle.wast_names.specs.Demand.{is_met}
use Rattle.wast_meaning.specs.Demands.{all_demands}
use Rattle.wast_meaning.specs.Numbered.{resolved}
use Rattle.wast_meaning.specs.WellFormed.{breaches}
use Rattle.wasm_layout.specs.AbstractModule as abstract
use Rattle.wasm_layout.specs.AbstractModule.{AbstractModule, FunctionHints}
use Rattle.wasm_layout.specs.IsModule.{Rise, IsHint, AreHints}
use Rattle.wasm_layout.specs.Layout.{function_at}
use Rattle.wast_conversions.specs.Instructions.{instr_meant}
use Rattle.wast_meant.specs.FieldsMeant.{function_of}
use Rattle.wast_meant.specs.NamesMeant.{GivenName, imported, imported_function, defined_function, bodies_in, function_hints, body_hints, hints_from}
use Rattle.wast_meant.specs.Meaning.{meant}
use Rattle.wast_encode_laws.specs.Bounds.{BodyFits, BodiesFit}
use Rattle.wast_encode_laws.specs.Formed.{HintsFit, IsFormed, DefinedFormed, FieldFormed}
use Rattle.wast_encode_laws.proofs.Placed.{meant_of, bodies, sections_of, functions_placed}
use Rattle.wast_encode_laws.proofs.Formed.{formed}
use Rattle.wasm_layout.proofs.Joined.{all_joined}

-- LISTS
pub rise_below : (m n : ℕ) (ns : List ℕ) → m ≤ n → Rise n ns → Rise m ns
rise_below m n [] l r = tt
rise_below m n (k ∷ ks) l r = let least : n ≤ k = r.0 in (omega (arith, l, least), r.1, r.2)

-- HINTS of a body
abbrev hint : items.Hint → abstract.Hint
hint h = record { index = h.index; value = h.value }

hints_rise : (least len : ℕ) (hs : List items.Hint) → len ≤ 2 ^ 32 → HintsFit least len hs → Rise least (map (λ h. h.index) (map hint hs))
hints_rise least len [] l f = tt
hints_rise least len (h ∷ hs) l f =
    let From : ℕ → Type 0 = λ k. Rise k (map (λ (x : abstract.Hint). x.index) (map hint hs)) in
    let next : h.index + 1 ≡ suc h.index = omega arith in
    let inside : h.index < len = f.1 in
    (f.0, omega (arith, l, inside), subst From next (hints_rise (h.index + 1) len hs l f.3))

module _ {N P : Type 0} (f : Function N P) where
  hints_stand : (least : ℕ) (hs : List items.Hint) → HintsFit least (length f.body.instrs) hs → AllByRecursion (IsHint (function_of f)) (map hint hs)
  hints_stand least [] h = tt
  hints_stand least (x ∷ xs) h =
      let Below : ℕ → Type 0 = λ len. x.index < len in
      (record { index = subst Below (sym (length-map f.body.instrs instr_meant)) h.1; value = h.2 }, hints_stand (x.index + 1) xs h.3)

-- functions rise
own_rise : (n : ℕ) (hs : List abstract.Hint) (rest : List FunctionHints) → n < 2 ^ 32 → Rise (suc n) (map (λ g. g.function) rest) → Rise n (map (λ g. g.function) (function_hints n hs ++ rest))
own_rise n [] rest l r = rise_below n (suc n) (map (λ (g : FunctionHints). g.function) rest) (omega arith) r
own_rise n (h ∷ hs) rest l r = (omega arith, l, r)

-- THE FUNCTIONS OF FIELDS, and their hints
module _ {N P : Type 0} where
  abbrev BodyFormed : Option (Function N P) → Type 0
  BodyFormed None = Unit {0}
  BodyFormed (Some f) = IsFormed f.body

  type_formed : (t : ExternType N P) → All BodyFormed (imported_function t)
  type_formed (OfFunc u) = All-cons BodyFormed None [] tt (All-nil BodyFormed)
  type_formed (OfExactFunc u) = All-cons BodyFormed None [] tt (All-nil BodyFormed)
  type_formed _ = All-nil BodyFormed

  types_formed : (ts : List (ExternType N P)) → All BodyFormed (flat_map imported_function ts)
  types_formed [] = All-nil BodyFormed
  types_formed (t ∷ ts) = All-append BodyFormed (imported_function t) (flat_map imported_function ts) (type_formed t) (types_formed ts)

  defined_formed : (d : Defined N P) → DefinedFormed d → All BodyFormed (defined_function d)
  defined_formed (Func f) h = All-cons BodyFormed (Some f) [] h (All-nil BodyFormed)
  defined_formed _ h = All-nil BodyFormed

  own_formed : (f : Field N P) → FieldFormed f → All BodyFormed (bodies_in f)
  own_formed (ImportField i) h = types_formed (imported i.items)
  own_formed (Define d) h = defined_formed d.defined h
  own_formed _ h = All-nil BodyFormed

  bodies_formed : (fs : List (Field N P)) → All FieldFormed fs → All BodyFormed (flat_map bodies_in fs)
  bodies_formed [] h = All-nil BodyFormed
  bodies_formed (f ∷ fs) h = All-append BodyFormed (bodies_in f) (flat_map bodies_in fs) (own_formed f (All-head FieldFormed f fs h)) (bodies_formed fs (All-tail FieldFormed f fs h))

  functions_rise : (n : ℕ) (os : List (Option (Function N P))) → n + length os ≤ 2 ^ 32 → Rise n (map (λ g. g.function) (hints_from n os))
  functions_rise n [] l = tt
  functions_rise n (o ∷ os) l = own_rise n (body_hints o) (hints_from (suc n) os) (omega (arith, l)) (functions_rise (suc n) os (omega (arith, l)))

  -- hints are those of the function with their number
  module _ {A : Type 0} (m : AbstractModule A) where
    -- the functions of m, from a number on
    abbrev From : ℕ → List (Option (Function N P)) → Type 0
    From n os = (i k : ℕ) → i ≡ n + k → function_at m i ≡ option_flatten (slice_get (map meant_of os) k)

    own_hints : (n : ℕ) (f : Function N P) (hs : List items.Hint) → function_at m n ≡ Some (function_of f) → length f.body.instrs ≤ 2 ^ 32 → HintsFit 0 (length f.body.instrs) hs →
        AllByRecursion (AreHints m) (function_hints n (map hint hs))
    own_hints n f [] at l fit = tt
    own_hints n f (h ∷ hs) at l fit = (
      record {
        function = function_of f;
        is_at = at;
        is_some = omega arith;
        indices = hints_rise 0 (length f.body.instrs) (h ∷ hs) l fit;
        each = hints_stand f 0 (h ∷ hs) fit;
      },
      tt,
    )

    body_are : (n : ℕ) (o : Option (Function N P)) (os : List (Option (Function N P))) → From n (o ∷ os) → BodyFits o → BodyFormed o → AllByRecursion (AreHints m) (function_hints n (body_hints o))
    body_are n None os at l h = tt
    body_are n (Some f) os at l h = own_hints n f f.body.hints (at n 0 (omega arith)) l h.hints

    hints_are : (n : ℕ) (os : List (Option (Function N P))) → From n os → All BodyFits os → All BodyFormed os → AllByRecursion (AreHints m) (hints_from n os)
    hints_are n [] at l h = tt
    hints_are n (o ∷ os) at l h =
        all_joined (AreHints m) (function_hints n (body_hints o)) (hints_from (suc n) os)
        (body_are n o os at (All-head BodyFits o os l) (All-head BodyFormed o os h))
        (hints_are (suc n) os (λ i k e. at i (suc k) (omega (arith, e))) (All-tail BodyFits o os l) (All-tail BodyFormed o os h))

-- THE MODULE MEANT
pub hint_functions : {N P : Type 0} (fs : List (Field N P)) → BodiesFit fs → Rise 0 (map (λ g. g.function) (hints_from 0 (flat_map bodies_in fs)))
hint_functions fs fit = functions_rise 0 (flat_map bodies_in fs) (omega (arith, fit.count))

module _ {N P : Type 0} (eq : N → N → Bool) (is_made : N → Bool) (name : Option (GivenName N)) (rs : List (Field N P)) (are_placed : bodies rs ≡ sections_of rs) where
  at_number : (i k : ℕ) → i ≡ 0 + k → function_at (meant eq is_made name rs) i ≡ option_flatten (slice_get (bodies rs) k)
  at_number i k e =
      let same : i ≡ k = omega (arith, e) in
      ap (λ l. option_flatten (slice_get l i)) (sym are_placed) ∙ ap (λ j. option_flatten (slice_get (bodies rs) j)) same

  meant_hints : All FieldFormed rs → BodiesFit rs → AllByRecursion (AreHints (meant eq is_made name rs)) (hints_from 0 (flat_map bodies_in rs))
  meant_hints h fit = hints_are (meant eq is_made name rs) 0 (flat_map bodies_in rs) at_number fit.each (bodies_formed rs h)

module _ {N P : Type 0} (eq : N → N → Bool) (self : (n : N) → eq n n ≡ true) (sound : (m n : N) → eq m n ≡ true → m ≡ n) (is_made : N → Bool) (naming : ℕ → N) (fs : List (Field N P)) where
  pub hints_fit : (name : Option (GivenName N)) → first_unmet is_met (all_demands eq naming fs) ≡ None → breaches eq is_made fs ≡ [] → BodiesFit (resolved eq naming fs) →
      AllByRecursion (AreHints (meant eq is_made name (resolved eq naming fs))) (meant eq is_made name (resolved eq naming fs)).hints
  hints_fit name met none fit = meant_hints eq is_made name (resolved eq naming fs) (functions_placed eq self sound naming fs met) (formed eq is_made naming fs none) fit
