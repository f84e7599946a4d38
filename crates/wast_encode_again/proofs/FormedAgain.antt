-- What fields are resolved to is well formed where the fields are, and meet all demands.
use Rattle.std.proofs.Common.{◌≡◌, ℕ, ◌+◌, ◌≤◌, Bool, true, false, List, [], ◌∷◌, ◌++◌, length, None, refl, sym, ap, ◌∙◌, arith}
use Rattle.std.specs.Prelude.{◌&&◌, ◌||◌, not, if◌then◌else◌}
use Rattle.std.specs.List.{flat_map, list_all}
use Rattle.std.specs.Cmp.Derive.{both_true}
use Rattle.std.proofs.lemmas.Bool.{false≢true}
use Rattle.std.proofs.lemmas.List.{length-append}
use Rattle.wast_names.specs.Walk.{first_unmet}
use Rattle.wast_names.specs.Demand.{is_met}
use Rattle.wast_field_syntax.specs.FieldTree.{Defined, Imported, Func, Table, TableOf, Memory, MemoryOf, Global, Tag, Field, TypeField, RecField, ImportField, Define, ExportField, StartField, ElemField, DataField, CustomField, is_start, field_place}
use Rattle.wast_meaning.specs.Demands.{order_demands, item_demands, field_demands, demands, all_demands}
use Rattle.wast_meaning.specs.Numbered.{resolved}
use Rattle.wast_meaning.specs.Scope.{Scope, scope_of}
use Rattle.wast_meaning.specs.Spaces.{items}
use Rattle.wast_meaning.specs.WellFormed.{pages_formed, page_formed, field_formed, breach, breaches}
use Rattle.wast_meaning.specs.Written.{has_any}
use Rattle.wast_meaning.proofs.Settled.{left, right, front, back}
use Rattle.wast_resolve_laws.proofs.Plain.{stands_alone, is_plain, plain_stays}
use Rattle.wast_resolve_laws.proofs.Resolved.{resolved_met}
use Rattle.wast_resolve_laws.proofs.Unmet.{all_met, all_bound}
use Rattle.wast_meant.specs.FieldsMeant.{starts_of}
use Rattle.wast_encode_laws.specs.Formed.{FieldFormed}
use Rattle.wast_encode_laws.proofs.Formed.{formed}
use Rattle.wast_encode_laws.proofs.FormedKept.{parts_formed, told}
use Rattle.wast_encode_laws.proofs.Ready.{resolved_plain}
use Rattle.wast_encode_laws.proofs.Starts.{one_start}
use Rattle.wast_encode_again.proofs.Tested.{all_tested, field_tested}

-- as many starts as there may be, behind one or none
abbrev room_for : Bool → ℕ
room_for true = 0
room_for false = 1

module _ {N P : Type 0} where
  -- nothing stands inline
  page_plain : (d : Defined N P) → stands_alone d ≡ true → page_formed d ≡ true
  page_plain (MemoryOf wide page vs) e = elim (false≢true e) [ ]
  page_plain (Imported from name t) e = refl
  page_plain (Func f) e = refl
  page_plain (Table t init) e = refl
  page_plain (TableOf wide t es) e = refl
  page_plain (Memory t) e = refl
  page_plain (Global t init) e = refl
  page_plain (Tag u) e = refl

  pages_plain : (f : Field N P) → is_plain f ≡ true → pages_formed f ≡ true
  pages_plain (Define d) e = page_plain d.defined (right (not (has_any d.exports)) (stands_alone d.defined) e)
  pages_plain (TypeField t) e = refl
  pages_plain (RecField r) e = refl
  pages_plain (ImportField i) e = refl
  pages_plain (ExportField x) e = refl
  pages_plain (StartField s) e = refl
  pages_plain (ElemField x) e = refl
  pages_plain (DataField d) e = refl
  pages_plain (CustomField c) e = refl

  not_twice : (started : Bool) (f : Field N P) → length (starts_of f) ≤ room_for started → not (started && is_start f) ≡ true
  not_twice false f l = refl
  not_twice true (StartField x) l = absurd (omega (arith, l))
  not_twice true (TypeField t) l = refl
  not_twice true (RecField r) l = refl
  not_twice true (ImportField i) l = refl
  not_twice true (Define d) l = refl
  not_twice true (ExportField e) l = refl
  not_twice true (ElemField e) l = refl
  not_twice true (DataField d) l = refl
  not_twice true (CustomField c) l = refl

  room_left : (started : Bool) (f : Field N P) (rest : ℕ) → length (starts_of f) + rest ≤ room_for started → rest ≤ room_for (started || is_start f)
  room_left true f rest l = omega (arith, l)
  room_left false (StartField x) rest l = omega (arith, l)
  room_left false (TypeField t) rest l = omega (arith, l)
  room_left false (RecField r) rest l = omega (arith, l)
  room_left false (ImportField i) rest l = omega (arith, l)
  room_left false (Define d) rest l = omega (arith, l)
  room_left false (ExportField e) rest l = omega (arith, l)
  room_left false (ElemField e) rest l = omega (arith, l)
  room_left false (DataField d) rest l = omega (arith, l)
  room_left false (CustomField c) rest l = omega (arith, l)

  module _ (eq : N → N → Bool) (is_made : N → Bool) (s : Scope N P) where
    formed_by : (started : Bool) (f : Field N P) → parts_formed f ≡ true → is_plain f ≡ true → not (started && is_start f) ≡ true → list_all is_met (field_demands eq s f) ≡ true → field_formed eq is_made s started f ≡ true
    formed_by started f a p n m = both_true (both_true (both_true a (pages_plain f p)) n) (all_bound eq is_made (field_demands eq s f) m)

    no_breach : (started : Bool) (f : Field N P) → field_formed eq is_made s started f ≡ true → breach eq is_made s started f ≡ []
    no_breach started f e = ap (λ b. if b then [] else field_place f ∷ []) e

    none_told : (started : Bool) (fs : List (Field N P)) → list_all parts_formed fs ≡ true → list_all is_plain fs ≡ true → list_all is_met (flat_map (field_demands eq s) fs) ≡ true
        → length (flat_map starts_of fs) ≤ room_for started → told eq is_made s started fs ≡ []
    none_told started [] a p m l = refl
    none_told started (f ∷ fs) a p m l =
        let count = length-append (starts_of f) (flat_map starts_of fs) in
        let both : length (starts_of f) + length (flat_map starts_of fs) ≤ room_for started = omega (arith, l, count) in
        let here : length (starts_of f) ≤ room_for started = omega (arith, both) in
        let well = formed_by started f (left (parts_formed f) (list_all parts_formed fs) a) (left (is_plain f) (list_all is_plain fs) p) (not_twice started f here)
        (front is_met (field_demands eq s f) (flat_map (field_demands eq s) fs) m) in
        ap (λ ps. ps ++ told eq is_made s (started || is_start f) fs) (no_breach started f well)
        ∙ none_told (started || is_start f) fs (right (parts_formed f) (list_all parts_formed fs) a) (right (is_plain f) (list_all is_plain fs) p)
        (back is_met (field_demands eq s f) (flat_map (field_demands eq s) fs) m) (room_left started f (length (flat_map starts_of fs)) both)

-- RESOLVED FIELDS
module _ {N P : Type 0} (eq : N → N → Bool) (self : (n : N) → eq n n ≡ true) (sound : (m n : N) → eq m n ≡ true → m ≡ n) (is_made : N → Bool) (naming : ℕ → N) (fs : List (Field N P)) where
  own_demands : first_unmet is_met (all_demands eq naming fs) ≡ None → first_unmet is_met (demands eq (resolved eq naming fs)) ≡ None
  own_demands met =
      ap (λ rs. first_unmet is_met (demands eq rs)) (sym (plain_stays naming (resolved eq naming fs) (resolved_plain eq naming fs)))
      ∙ resolved_met eq self sound naming fs met naming

  pub formed_again : first_unmet is_met (all_demands eq naming fs) ≡ None → breaches eq is_made fs ≡ [] → breaches eq is_made (resolved eq naming fs) ≡ []
  formed_again met none =
      let rs = resolved eq naming fs in
      let all = all_met (demands eq rs) (own_demands met) in
      none_told eq is_made (scope_of eq rs) false rs
      (all_tested parts_formed FieldFormed field_tested rs (formed eq is_made naming fs none)) (resolved_plain eq naming fs)
      (back is_met (order_demands rs ++ item_demands eq (flat_map items rs)) (flat_map (field_demands eq (scope_of eq rs)) rs) all) (one_start eq is_made naming fs none)
