-- Names and groups of names, one by one.
use Rattle.std.proofs.Common.{ℕ, zero, suc, ◌≡◌, ◌+◌, ◌<◌, ◌^◌, true, false, nat_eq, List, [], ◌∷◌, ◌++◌, length, map, replicate, Option, None, Result, Ok, Err, OnOk, IsErrOf, refl, sym, ap, ◌∙◌, subst, arith, zero-add}
use Rattle.std.proofs.Common.{true≢false}
use Rattle.std.specs.List.{flat_map, AllByRecursion}
use Rattle.std.proofs.lemmas.List.{length-map}
use Rattle.std.proofs.lemmas.List.Folds.{flat_map-map}
use Rattle.wasm_encoder_bytes.specs.declared.error.EncodeError.{EncodeError}
use Rattle.wasm_encoder_bytes.specs.declared.error.EncodeError.TheVariants.{TooLarge}
use Rattle.wasm_encoder_base.specs.Bytes.{counted}
use Rattle.wasm_encoder_base.specs.Leb.{uleb}
use Rattle.wasm_encoder_base.specs.Lists.{Listed, listed, list_bytes, with_item, HasRoom}
use Rattle.wasm_encoder_custom.specs.Names.{naming_bytes, inner_naming_bytes}
use Rattle.wasm_layout.specs.AbstractModule.{Naming, InnerNaming}
use Rattle.wasm_layout.specs.Layout as layout
use Rattle.wast_meant.specs.NamesMeant.{entries, naming, named, inner_naming, group_naming, inner_named}
use Rattle.wast_name_maps.specs.Listed.{name_item, inner_item}
use Rattle.wast_name_maps.specs.Numbered.{Numbered, none_yet, Fit, NameFits, NamesJoined, GroupFits, GroupsJoined, GroupsJoin}
use Rattle.wast_name_maps.proofs.Joining.{joined_nothing, joined_single, fit_nothing, can_single, room_single}

-- ONE NAME
abbrev at : Listed → ℕ → Numbered
at list n = record { list = list; next = n }

-- none of so many has a name
none_named : (n k : ℕ) → entries naming n (replicate {A = Option (List ℕ)} k None) ≡ []
none_named n zero = refl
none_named n (suc k) = none_named (suc n) k

so_many : (k : ℕ) → length (replicate {A = Option (List ℕ)} k None) ≡ k
so_many zero = refl
so_many (suc k) = ap suc (so_many k)

pub names_passed : (s new : Numbered) (k : ℕ) → new ≡ at s.list (s.next + k) → NamesJoined s new (replicate k None)
names_passed s new k h = joined_nothing s new (replicate k None) (none_named s.next k) (h ∙ ap (λ m. at s.list (s.next + m)) (sym (so_many k)))

-- NAMES INSIDE as their map has them
pub list_is : (names : Numbered) (os : List (Option (List ℕ))) → NamesJoined none_yet names os → names.list ≡ listed name_item (named os)
list_is names os h =
    let es = entries naming 0 os in
    ap (λ (s : Numbered). s.list) h.same ∙ ap (λ n. record { count = n; bytes = flat_map name_item es }) (zero-add (length es))

pub map_bytes : (ns : List (Naming (List ℕ))) → list_bytes (listed name_item ns) ≡ counted naming_bytes (map layout.naming ns)
map_bytes ns = ap (λ n. uleb n ++ flat_map name_item ns) (sym (length-map ns layout.naming)) ∙ ap (λ b. uleb (length (map layout.naming ns)) ++ b) (sym (flat_map-map naming_bytes layout.naming ns))

small_count : (ns : List (Naming (List ℕ))) → 0 + length ns < 2 ^ 32 → length ns < 2 ^ 32
small_count ns h = omega arith

from_none : (ns : List (Naming (List ℕ))) → length ns < 2 ^ 32 → 0 + length ns < 2 ^ 32
from_none ns h = omega arith

-- and those of groups
pub groups_list_is : (groups : Numbered) (gs : List (List (Option (List ℕ)))) → GroupsJoined none_yet groups gs → groups.list ≡ listed inner_item (inner_named gs)
groups_list_is groups gs h =
    let es = entries group_naming 0 gs in
    ap (λ (s : Numbered). s.list) h.same ∙ ap (λ n. record { count = n; bytes = flat_map inner_item es }) (zero-add (length es))

pub inner_bytes : (ns : List (InnerNaming (List ℕ))) → list_bytes (listed inner_item ns) ≡ counted inner_naming_bytes (map layout.inner_naming ns)
inner_bytes ns = ap (λ n. uleb n ++ flat_map inner_item ns) (sym (length-map ns layout.inner_naming)) ∙ ap (λ b. uleb (length (map layout.inner_naming ns)) ++ b) (sym (flat_map-map inner_naming_bytes layout.inner_naming ns))

-- ONE GROUP, without names and with some

some_inside : (n : ℕ) (os : List (Option (List ℕ))) (x : Naming (List ℕ)) (xs : List (Naming (List ℕ))) → named os ≡ x ∷ xs → entries group_naming n (os ∷ []) ≡ record { index = n; names = x ∷ xs } ∷ []
some_inside n os x xs e = ap (λ v. inner_naming n v ++ []) e

pub group_joins : {T : Type 0} (r : Result T EncodeError) (names : Numbered) (os : List (Option (List ℕ))) (list new : Listed) (n : ℕ) → NamesJoined none_yet names os → nat_eq names.list.count 0 ≡ false
    → OnOk r (new ≡ with_item list (uleb n ++ list_bytes names.list)) → OnOk r (n < 2 ^ 32) → OnOk r (HasRoom list) → (IsErrOf r TooLarge → n < 2 ^ 32 → HasRoom list → ⊥) → GroupsJoin r (at list n) (at new (n + 1)) (os ∷ [])
group_joins {T} r names os list new n h some = of (named os) refl r
  where
    of : (ns : List (Naming (List ℕ))) → named os ≡ ns → (r : Result T EncodeError) → OnOk r (new ≡ with_item list (uleb n ++ list_bytes names.list)) → OnOk r (n < 2 ^ 32) → OnOk r (HasRoom list)
        → (IsErrOf r TooLarge → n < 2 ^ 32 → HasRoom list → ⊥) → GroupsJoin r (at list n) (at new (n + 1)) (os ∷ [])
    of [] e r same index room large = absurd (let z : true ≡ false = sym (ap (λ k. nat_eq k 0) (ap (λ (l : Listed). l.count) (list_is names os h) ∙ ap length e)) ∙ some in true≢false z)
    of (x ∷ xs) e (Ok y) same index room large =
        let ns = x ∷ xs in
        let b : InnerNaming (List ℕ) = record { index = n; names = ns } in
        let bytes : list_bytes names.list ≡ counted naming_bytes (map layout.naming ns) = ap list_bytes (list_is names os h ∙ ap (listed name_item) e) ∙ map_bytes ns in
        let all : entries naming 0 os ≡ ns = e in
        joined_single (at list n) (at new (n + 1)) (os ∷ []) b (some_inside n os x xs e) (ap (λ l. at l (n + 1)) (same ∙ ap (λ v. with_item list (uleb n ++ v)) bytes))
        (record { index = index; each = subst (AllByRecursion NameFits) all h.fit.each; count = small_count (x ∷ xs) (subst (λ v. 0 < length v → 0 + length v < 2 ^ 32) all h.fit.count (omega arith)) }) room
    of (x ∷ xs) e (Err y) same index room large = λ is fits.
        let b : InnerNaming (List ℕ) = record { index = n; names = x ∷ xs } in
        let can : GroupFits b = can_single (at list n) (os ∷ []) b (some_inside n os x xs e) fits in
        large (ap (λ v. Err v) is) can.index (room_single (at list n) (os ∷ []) b (some_inside n os x xs e) fits)

-- where a group fits, the names in it do
inside_fits : (s : Numbered) (os : List (Option (List ℕ))) → Fit group_naming GroupFits s (os ∷ []) → Fit naming NameFits none_yet os
inside_fits s os h = of (named os) refl
  where
    of : (ns : List (Naming (List ℕ))) → named os ≡ ns → Fit naming NameFits none_yet os
    of [] e =
        let all : entries naming 0 os ≡ [] = e in
        fit_nothing none_yet os all
    of (x ∷ xs) e =
        let b : InnerNaming (List ℕ) = record { index = s.next; names = x ∷ xs } in
        let can : GroupFits b = can_single s (os ∷ []) b (some_inside s.next os x xs e) h in
        let all : entries naming 0 os ≡ x ∷ xs = e in
        record { each = subst (AllByRecursion NameFits) (sym all) can.each; count = subst (λ v. 0 < length v → 0 + length v < 2 ^ 32) (sym all) (λ l. from_none (x ∷ xs) can.count) }

pub unfit_inside : (s : Numbered) (os : List (Option (List ℕ))) (e : EncodeError) → (e ≡ TooLarge → ¬ Fit naming NameFits none_yet os) → e ≡ TooLarge → ¬ Fit group_naming GroupFits s (os ∷ [])
unfit_inside s os e h is fits = h is (inside_fits s os fits)
