-- The names that a counter makes are fresh.
use Rattle.std.proofs.Common.{◌≡◌, ℕ, suc, ◌+◌, ◌≤◌, ◌<◌, Bool, true, false, List, [], ◌∷◌, All, get_or, refl, ◌∙◌, ap, arith, nat_eq}
use Rattle.std.specs.Prelude.{◌&&◌, not, if◌then◌else◌}
use Rattle.std.specs.List.{flat_map, list_any}
use Rattle.std.specs.Cmp.Derive.{both_true}
use Rattle.std.proofs.lemmas.Bool.{ne_eqb, and_right}
use Rattle.std.proofs.lemmas.List.Elements.{All-nil, All-cons, All-head, All-tail}
use Rattle.std.proofs.lemmas.List.Folds.{list_any_none}
use Rattle.wast_grammar.specs.Tokens.{Name}
use Rattle.wast_grammar.specs.Spelling.{same_name, same_text}
use Rattle.wast_module_fields.specs.FieldTree.{Field}
use Rattle.wast_meaning.specs.Written.{takes_name, by_counter}
use Rattle.wast_meaning.specs.Fresh.{are_distinct, are_new, field_names, is_fresh, taken_from}
use Rattle.wast_meaning.proofs.Counter.{next}
use Rattle.wast_meaning.specs.Made.{made}

differ : (a b : Name) → (a.1 ≡ b.1 → ⊥) → same_name a b ≡ false
differ a b h = and_right (same_text a.0 b.0) (nat_eq a.1 b.1) (ne_eqb a.1 b.1 h)

earlier : (n : ℕ) (b : Name) → n + 1 < b.1 → same_name (made n) b ≡ false
earlier n b h = differ (made n) b (λ (e : n + 1 ≡ b.1). absurd (omega arith))

module _ {P : Type 0} where
  -- the names that are made from a count on
  abbrev pub names_from : ℕ → List (Field Name P) → List Name
  names_from n [] = []
  names_from n (f ∷ fs) = if takes_name f then made n ∷ names_from (n + 1) fs else names_from n fs

  shifted : (naming : ℕ → Name) (k : ℕ) (fs : List (Field Name P)) → taken_from naming (suc k) fs ≡ taken_from (λ i. naming (suc i)) k fs
  shifted naming k [] = refl
  shifted naming k (f ∷ fs) =
      ap (λ l. if takes_name f then naming (suc k) ∷ taken_from naming (suc (suc k)) fs else l) (shifted naming (suc k) fs)
      ∙ ap (λ l. if takes_name f then naming (suc k) ∷ l else taken_from (λ i. naming (suc i)) (suc k) fs) (shifted naming (suc k) fs)

  chosen : (b : Bool) (n : ℕ) (fs : List (Field Name P)) → (if b then made n ∷ names_from (if b then n + 1 else n) fs else names_from (if b then n + 1 else n) fs)
      ≡ (if b then made n ∷ names_from (n + 1) fs else names_from n fs)
  chosen true n fs = refl
  chosen false n fs = refl

  taken : (n : ℕ) (fs : List (Field Name P)) → taken_from (by_counter made n fs) 0 fs ≡ names_from n fs
  taken n [] = refl
  taken n (f ∷ fs) =
      ap (λ l. if takes_name f then made n ∷ l else l) (shifted (by_counter made n (f ∷ fs)) 0 fs ∙ taken (next n f) fs)
      ∙ chosen (takes_name f) n fs

  above : (m n : ℕ) → m ≤ n → (fs : List (Field Name P)) → All (λ (x : Name). m < x.1) (names_from n fs)
  above m n h [] = All-nil (λ x. m < x.1)
  above m n h (f ∷ fs) = of (takes_name f) (All-cons (λ x. m < x.1) (made n) (names_from (n + 1) fs) (omega arith) (above m (n + 1) (omega arith) fs)) (above m n h fs)
    where
      of : (b : Bool) → All (λ (x : Name). m < x.1) (made n ∷ names_from (n + 1) fs) → All (λ (x : Name). m < x.1) (names_from n fs)
          → All (λ (x : Name). m < x.1) (if b then made n ∷ names_from (n + 1) fs else names_from n fs)
      of true more same = more
      of false more same = same

  none_again : (n : ℕ) (fs : List (Field Name P)) → list_any (same_name (made n)) (names_from (n + 1) fs) ≡ false
  none_again n fs = list_any_none (same_name (made n)) (names_from (n + 1) fs) (λ k d lt. earlier n (get_or (names_from (n + 1) fs) k d) (above (n + 1) (n + 1) (omega arith) fs k d lt))

  distinct_by : (b : Bool) (n : ℕ) (fs : List (Field Name P)) → are_distinct same_name (names_from (n + 1) fs) ≡ true → are_distinct same_name (names_from n fs) ≡ true
      → are_distinct same_name (if b then made n ∷ names_from (n + 1) fs else names_from n fs) ≡ true
  distinct_by true n fs later same = ap (λ b. not b && are_distinct same_name (names_from (n + 1) fs)) (none_again n fs) ∙ later
  distinct_by false n fs later same = same

  distinct : (n : ℕ) (fs : List (Field Name P)) → are_distinct same_name (names_from n fs) ≡ true
  distinct n [] = refl
  distinct n (f ∷ fs) = distinct_by (takes_name f) n fs (distinct (n + 1) fs) (distinct n fs)

new : (n : ℕ) (names others : List Name) → All (λ (x : Name). n < x.1) names → All (λ (x : Name). x.1 ≤ n) others → are_new same_name names others ≡ true
new n [] others above below = refl
new n (x ∷ names) others above below =
    both_true (ap not (list_any_none (same_name x) others (λ k d lt. differ x (get_or others k d) (λ e. let high = All-head (λ (y : Name). n < y.1) x names above in let low = below k d lt in absurd (omega arith)))))
    (new n names others (All-tail (λ (y : Name). n < y.1) x names above) below)

pub fresh_names : (n : ℕ) (fs : List (Field Name ℕ)) → All (λ (x : Name). x.1 ≤ n) (flat_map field_names fs) → is_fresh same_name (by_counter made n fs) fs ≡ true
fresh_names n fs below =
    ap (λ names. are_distinct same_name names && are_new same_name names (flat_map field_names fs)) (taken n fs)
    ∙ both_true (distinct n fs) (new n (names_from n fs) (flat_map field_names fs) (above n n (omega arith) fs) below)
