-- The functions that have hints, by their numbers.
use Rattle.std.proofs.Common.{ℕ, suc, ◌≡◌, ◌+◌, ◌-◌, ◌<◌, ◌≤◌, ◌^◌, min, Bool, true, false, List, [], ◌∷◌, ◌++◌, length, map, refl, ap, sym, subst, ◌∙◌, arith, ⊎_elim, append_assoc, append-nil, flat_map, length-append, Option, Some, None, Result, Ok, Err}
use Rattle.std.specs.Prelude.{All}
use Rattle.std.proofs.lemmas.Bool.{cases_lt}
use Rattle.std.proofs.lemmas.List.Elements.{All-nil, All-cons, All-head, All-append}
use Rattle.wasm_encoder_base.specs.Bytes.{counted}
use Rattle.wasm_encoder_base.specs.Leb.{uleb}
use Rattle.wasm_encoder_base.specs.Lists.{Listed, listed, with_item}
use Rattle.wasm_encoder_base.specs.EncodeError.{EncodeError}
use Rattle.wasm_encoder_custom.specs.BranchHints.{FunctionHints, hint_bytes, function_hints_bytes}
use Rattle.wasm_encoder_custom.specs.declared.branch_hints.BranchHint.{BranchHint}
use Rattle.wasm_encoder_sections.specs.Writes.{Writes}
use Rattle.wasm_layout.specs.Layout.{if_there}
use Rattle.wasm_layout.specs.Present.{has_any}
use Rattle.wast_module_fields.specs.FieldTree.{Function}
use Rattle.wast_custom_sections.specs.Parts.{joined}
use Rattle.wast_custom_sections.specs.Hinted.{Hinted, HintedFits, placed, placed_at, hinted_bytes, with_hints, hinted, hinted_from, AddsHinted}
use Rattle.wast_custom_sections.proofs.Sizes.{uleb_some, count_size, counted_size, cons_size, append_size}
use Rattle.wast_custom_sections.proofs.Steps.{joined_listed, all_before, all_behind}

-- SIZES: a hint has a byte at the least, and a function has more bytes than hints
hint_some : (h : BranchHint) → 1 ≤ length (hint_bytes h)
hint_some h = omega (arith, uleb_some h.branch_func_offset, length-append (uleb h.branch_func_offset ++ 0x01 ∷ []) (uleb h.branch_hint_value), length-append (uleb h.branch_func_offset) (0x01 ∷ []))

pub hints_size : (f : FunctionHints) → length f.hints + 1 ≤ length (function_hints_bytes f)
hints_size f =
    omega (arith, uleb_some f.function_index, count_size hint_bytes hint_some f.hints, counted_size hint_bytes f.hints, length-append (uleb f.function_index) (counted hint_bytes f.hints))

hinted_some : (h : Hinted) → 1 ≤ length (hinted_bytes h)
hinted_some h = omega (arith, hints_size (placed h))

-- a number past 64 bits stays the last one
abbrev pub capped : ℕ → ℕ
capped n = min n (2 ^ 64 - 1)

none_here : (b : Bool) (x y : Hinted) (rest : List Hinted) → 2 ^ 32 ≤ x.number → All HintedFits (if_there b x ++ rest) → (if_there b y ≡ []) × All HintedFits rest
none_here true x y rest l h = let f : x.number < 2 ^ 32 = (All-head HintedFits x rest h).number in absurd (omega arith)
none_here false x y rest l h = (refl, h)

module _ {N P : Type 0} where
  pub hinted_append : (n : ℕ) (os qs : List (Option (Function N P))) → hinted_from n (os ++ qs) ≡ hinted_from n os ++ hinted_from (n + length os) qs
  hinted_append n [] qs = let e : n ≡ n + 0 = omega arith in ap (λ k. hinted_from k qs) e
  hinted_append n (o ∷ os) qs =
      let e : suc n + length os ≡ n + suc (length os) = omega arith in
      ap (λ r. hinted n o ++ r) (hinted_append (suc n) os qs ∙ ap (λ k. hinted_from (suc n) os ++ hinted_from k qs) e)
      ∙ sym (append_assoc (hinted n o) (hinted_from (suc n) os) (hinted_from (n + suc (length os)) qs))

  -- Where their numbers fit, none of them is past 32 bits, so they are the same from the number at which one stays.
  none_past : (n k : ℕ) (os : List (Option (Function N P))) → 2 ^ 32 ≤ n → All HintedFits (hinted_from n os) → hinted_from k os ≡ []
  none_past n k [] l h = refl
  none_past n k (None ∷ os) l h = none_past (suc n) (suc k) os (omega arith) h
  none_past n k (Some f ∷ os) l h =
      let here = none_here (has_any f.body.hints) (with_hints n f.locals f.body) (with_hints k f.locals f.body) (hinted_from (suc n) os) l h in
      ap (λ v. v ++ hinted_from (suc k) os) here.0 ∙ none_past (suc n) (suc k) os (omega arith) here.1

  same_capped : (n : ℕ) (os : List (Option (Function N P))) → All HintedFits (hinted_from (capped n) os) → hinted_from (capped n) os ≡ hinted_from n os
  same_capped n os h = ⊎_elim
      (λ l. let e : capped n ≡ n = omega arith in ap (λ k. hinted_from k os) e)
      (λ l. let past : 2 ^ 32 ≤ capped n = omega arith in none_past (capped n) (capped n) os past h ∙ sym (none_past (capped n) n os past h))
      (cases_lt n (2 ^ 64))

  same_uncapped : (n : ℕ) (os : List (Option (Function N P))) → All HintedFits (hinted_from n os) → hinted_from n os ≡ hinted_from (capped n) os
  same_uncapped n os h = ⊎_elim
      (λ l. let e : n ≡ capped n = omega arith in ap (λ k. hinted_from k os) e)
      (λ l. let past : 2 ^ 32 ≤ n = omega arith in none_past n n os past h ∙ sym (none_past n (capped n) os past h))
      (cases_lt n (2 ^ 64))

  -- ONE MORE FIELD, of these functions behind those
  module _ (os qs : List (Option (Function N P))) where
    more_hinted : hinted_from 0 (os ++ qs) ≡ hinted_from 0 os ++ hinted_from (length os) qs
    more_hinted = let e : 0 + length os ≡ length os = omega arith in hinted_append 0 os qs ∙ ap (λ k. hinted_from 0 os ++ hinted_from k qs) e

    pub listed_then : {before after : Listed} → All HintedFits (hinted_from (capped (length os)) qs) → before ≡ listed hinted_bytes (hinted_from 0 os)
        → after ≡ joined before (listed hinted_bytes (hinted_from (capped (length os)) qs)) → after ≡ listed hinted_bytes (hinted_from 0 (os ++ qs))
    listed_then {before = before} h p q =
        q
        ∙ ap (λ v. joined v (listed hinted_bytes (hinted_from (capped (length os)) qs))) p
        ∙ ap (λ v. joined (listed hinted_bytes (hinted_from 0 os)) (listed hinted_bytes v)) (same_capped (length os) qs h)
        ∙ joined_listed hinted_bytes (hinted_from 0 os) (hinted_from (length os) qs)
        ∙ ap (listed hinted_bytes) (sym more_hinted)

    pub fit_then : All HintedFits (hinted_from 0 os) → All HintedFits (hinted_from (capped (length os)) qs) → All HintedFits (hinted_from 0 (os ++ qs))
    fit_then f g = subst (All HintedFits) (sym more_hinted) (All-append HintedFits (hinted_from 0 os) (hinted_from (length os) qs) f (subst (All HintedFits) (same_capped (length os) qs g) g))

    module _ (rest : List (Option (Function N P))) where
      all_hinted : hinted_from 0 ((os ++ qs) ++ rest) ≡ (hinted_from 0 os ++ hinted_from (length os) qs) ++ hinted_from (0 + length (os ++ qs)) rest
      all_hinted = hinted_append 0 (os ++ qs) rest ∙ ap (λ v. v ++ hinted_from (0 + length (os ++ qs)) rest) more_hinted

      -- Where all fit, these do, and what stands before them leaves them room.
      pub fit_of_all : All HintedFits (hinted_from 0 ((os ++ qs) ++ rest)) → All HintedFits (hinted_from (capped (length os)) qs)
      fit_of_all h =
          let both = all_before HintedFits (hinted_from 0 os ++ hinted_from (length os) qs) (hinted_from (0 + length (os ++ qs)) rest) (subst (All HintedFits) all_hinted h) in
          let these = all_behind HintedFits (hinted_from 0 os) (hinted_from (length os) qs) both in
          subst (All HintedFits) (same_uncapped (length os) qs these) these

      pub room_of_all : {before : Listed} → before ≡ listed hinted_bytes (hinted_from 0 os) → All HintedFits (hinted_from (capped (length os)) qs)
          → length (flat_map hinted_bytes (hinted_from 0 ((os ++ qs) ++ rest))) < 2 ^ 32 → before.count + length (flat_map hinted_bytes (hinted_from (capped (length os)) qs)) < 2 ^ 32
      room_of_all p h l =
          let one = hinted_from 0 os in
          let two = hinted_from (length os) qs in
          let whole = ap (λ v. length (flat_map hinted_bytes v)) all_hinted in
          let same = ap (λ v. length (flat_map hinted_bytes v)) (same_capped (length os) qs h) in
          let count = ap (λ v. v.count) p in
          let few = count_size hinted_bytes hinted_some one in
          omega (arith, append_size hinted_bytes (one ++ two) (hinted_from (0 + length (os ++ qs)) rest), append_size hinted_bytes one two)

-- ONE MORE FIELD: it has the functions qs behind os
module _ {N P : Type 0} (os qs bs : List (Option (Function N P))) (n : ℕ) (numbered : n ≡ capped (length os)) where
  at_capped : hinted_from n qs ≡ hinted_from (capped (length os)) qs
  at_capped = ap (λ k. hinted_from k qs) numbered

  pub field_listed : {before after : Listed} → bs ≡ os ++ qs → before ≡ listed hinted_bytes (hinted_from 0 os) → All HintedFits (hinted_from n qs)
      → after ≡ joined before (listed hinted_bytes (hinted_from n qs)) → after ≡ listed hinted_bytes (hinted_from 0 bs)
  field_listed {before = before} e p f q =
      listed_then os qs (subst (All HintedFits) at_capped f) p (q ∙ ap (λ v. joined before (listed hinted_bytes v)) at_capped)
      ∙ ap (λ b. listed hinted_bytes (hinted_from 0 b)) (sym e)

  pub field_fits : bs ≡ os ++ qs → All HintedFits (hinted_from 0 os) → All HintedFits (hinted_from n qs) → All HintedFits (hinted_from 0 bs)
  field_fits e f g = subst (λ b. All HintedFits (hinted_from 0 b)) (sym e) (fit_then os qs f (subst (All HintedFits) at_capped g))

  pub field_counted : {m k : ℕ} → bs ≡ os ++ qs → k ≡ length qs → m ≡ capped (n + k) → m ≡ capped (length bs)
  field_counted e c s = let all = ap length e in omega (arith, length-append os qs)

  module _ (rest : List (Option (Function N P))) (e : bs ≡ (os ++ qs) ++ rest) (f : All HintedFits (hinted_from 0 bs)) where
    pub field_of_all : All HintedFits (hinted_from n qs)
    field_of_all = subst (All HintedFits) (sym at_capped) (fit_of_all os qs rest (subst (λ b. All HintedFits (hinted_from 0 b)) e f))

    pub field_room : {before : Listed} → before ≡ listed hinted_bytes (hinted_from 0 os) → length (flat_map hinted_bytes (hinted_from 0 bs)) < 2 ^ 32 → before.count + length (flat_map hinted_bytes (hinted_from n qs)) < 2 ^ 32
    field_room {before = before} p l =
        subst (λ v. before.count + length (flat_map hinted_bytes v) < 2 ^ 32) (sym at_capped)
        (room_of_all os qs rest p (subst (All HintedFits) at_capped field_of_all) (subst (λ b. length (flat_map hinted_bytes (hinted_from 0 b)) < 2 ^ 32) e l))

-- LISTS with none and with one more
pub adds_none : (l : Listed) → AddsHinted [] l l (Ok tt)
adds_none l =
    let count : l.count ≡ l.count + 0 = omega arith in
    let bytes : l.bytes ≡ l.bytes ++ [] = sym (append-nil l.bytes) in
    record { added = (λ i. record { count = count i; bytes = bytes i }); fit = All-nil HintedFits; too_large = λ e f g. cc }

with_one : (l : Listed) (x : Hinted) → with_item l (hinted_bytes x) ≡ joined l (listed hinted_bytes (x ∷ []))
with_one l x = let same : l.bytes ++ hinted_bytes x ≡ l.bytes ++ (hinted_bytes x ++ []) = ap (λ v. l.bytes ++ v) (sym (append-nil (hinted_bytes x))) in (λ i. record { count = l.count + 1; bytes = same i })

pub adds_one : (x : Hinted) (function : ℕ) (hints : List BranchHint) (before after : Listed) (r : Result (Unit {0}) EncodeError) → function ≡ x.number → hints ≡ map (placed_at x.body) x.hints → HintedFits x
    → Writes (function_hints_bytes (record { function_index = function; hints = hints })) (length hints < 2 ^ 32) before after r → AddsHinted (x ∷ []) before after r
adds_one x function hints before after (Ok u) e p fits w = record {
  added = w.written ∙ (λ i. with_item before (function_hints_bytes (record { function_index = e i; hints = p i }))) ∙ with_one before x;
  fit = All-cons HintedFits x [] fits (All-nil HintedFits);
  too_large = λ t f l. cc;
}
adds_one x function hints before after (Err y) e p fits w =
    let count = ap length p in
    record {
      added = tt;
      fit = tt;
      too_large = λ t f l.
          let more = hints_size (placed x) in
          let one = cons_size hinted_bytes x [] in
          w.too_large t (omega arith) (omega arith);
    }

-- whether there are any
pub any_none : {A B : Type 0} (f : A → B) (xs : List A) → length xs ≡ 0 → has_any (map f xs) ≡ false
any_none f [] e = refl
any_none f (x ∷ xs) e = absurd (omega arith)

pub any_some : {A B : Type 0} (f : A → B) (xs : List A) → 0 < length xs → has_any (map f xs) ≡ true
any_some f [] l = absurd (omega arith)
any_some f (x ∷ xs) l = refl

pub listed_none : (hs : List Hinted) (list : Listed) → list ≡ listed hinted_bytes hs → list.count ≡ 0 → has_any hs ≡ false
listed_none [] list e c = refl
listed_none (h ∷ hs) list e c = let count = ap (λ l. l.count) e in absurd (omega arith)

pub listed_some : (hs : List Hinted) (list : Listed) → list ≡ listed hinted_bytes hs → 0 < list.count → has_any hs ≡ true
listed_some [] list e c = let count = ap (λ l. l.count) e in absurd (omega arith)
listed_some (h ∷ hs) list e c = refl
