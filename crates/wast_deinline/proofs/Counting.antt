-- One more field is written out, with a counter for the fresh names.
use Rattle.std.proofs.Common.{◌≡◌, ℕ, ◌+◌, ◌<◌, ◌≤◌, Bool, true, false, List, [], ◌∷◌, ◌++◌, map, length, get_or, take, drop, sym, ◌∙◌, ap, arith, append_assoc, append-nil, cond}
use Rattle.std.specs.Prelude.{if◌then◌else◌}
use Rattle.std.specs.List.{count_by}
use Rattle.std.proofs.lemmas.List.{map-append, take-append-drop, drop_more}
use Rattle.std.proofs.lemmas.List.Sums.{sum_by-append, sum_by-cons, sum_by_push}
use Rattle.wast_module_fields.specs.FieldTree.{Field}
use Rattle.wast_meaning.specs.Written.{by_counter, field_out, takes_name, written_out}
use Rattle.wast_meaning.proofs.Counter.{counted, counted_out, next}

shift : (b : Bool) (n m : ℕ) → (if b then n + 1 else n) + m ≡ n + (cond b 1 0 + m)
shift true n m = omega arith
shift false n m = omega arith

module _ {N P : Type 0} (made : ℕ → N) where
  counted_more : (n : ℕ) (fs : List (Field N P)) (f : Field N P) → counted made n (fs ++ f ∷ []) ≡ counted made n fs ++ field_out (made (n + count_by takes_name fs)) f
  counted_more n [] f = let e : n ≡ n + 0 = omega arith in append-nil (field_out (made n) f) ∙ ap (λ k. field_out (made k) f) e
  counted_more n (g ∷ fs) f =
      ap (λ l. field_out (made n) g ++ l) (counted_more (next n g) fs f
      ∙ ap (λ k. counted made (next n g) fs ++ field_out (made k) f) (shift (takes_name g) n (count_by takes_name fs) ∙ ap (λ k. n + k) (sym (sum_by-cons (λ h. cond (takes_name h) 1 0) g fs))))
      ∙ sym (append_assoc (field_out (made n) g) (counted made (next n g) fs) (field_out (made (n + count_by takes_name (g ∷ fs))) f))

  -- fields that a view shows, written out so far, and one more
  module _ {X : Type 0} (view : X → Field N P) where
    pub written_more : (n g : ℕ) (out new : List (Field N P)) (xs : List X) (x : X) → out ≡ written_out (by_counter made n (map view xs)) (map view xs)
        → g ≡ n + count_by takes_name (map view xs) → new ≡ out ++ field_out (made g) (view x)
        → new ≡ written_out (by_counter made n (map view (xs ++ x ∷ []))) (map view (xs ++ x ∷ []))
    written_more n g out new xs x before at after =
        after ∙ ap (λ l. l ++ field_out (made g) (view x)) (before ∙ sym (counted_out made n (map view xs)))
        ∙ ap (λ k. counted made n (map view xs) ++ field_out (made k) (view x)) at
        ∙ sym (ap (counted made n) (map-append view xs (x ∷ [])) ∙ counted_more n (map view xs) (view x))
        ∙ counted_out made n (map view (xs ++ x ∷ []))

by_one : (b : Bool) (n c g h : ℕ) → g ≡ n + c → h ≡ (if b then g + 1 else g) → h ≡ n + (c + cond b 1 0)
by_one true n c g h at e = omega arith
by_one false n c g h at e = omega arith

-- the count, so far and behind one more
pub count_more : {N P X : Type 0} (view : X → Field N P) (n g h : ℕ) (xs : List X) (x : X) → g ≡ n + count_by takes_name (map view xs)
    → h ≡ (if takes_name (view x) then g + 1 else g) → h ≡ n + count_by takes_name (map view (xs ++ x ∷ []))
count_more view n g h xs x at e =
    by_one (takes_name (view x)) n (count_by takes_name (map view xs)) g h at e
    ∙ ap (λ k. n + k) (sym (ap (count_by takes_name) (map-append view xs (x ∷ [])) ∙ sum_by_push (λ f. cond (takes_name f) 1 0) (map view xs) (view x)))

within_one : (b : Bool) (n c r g h : ℕ) → g ≡ n + c → h ≡ (if b then g + 1 else g) → h ≤ n + (c + (cond b 1 0 + r))
within_one true n c r g h at e = omega (arith, at, e)
within_one false n c r g h at e = omega (arith, at, e)

-- the count behind one more is that of all at most
pub count_within : {N P X : Type 0} (view : X → Field N P) (n g h : ℕ) (all xs : List X) (x : X) → xs ≡ take (length xs) all → length xs < length all → x ≡ get_or all (length xs) x
    → g ≡ n + count_by takes_name (map view xs) → h ≡ (if takes_name (view x) then g + 1 else g) → h ≤ n + count_by takes_name (map view all)
count_within {N} {P} view n g h all xs x so lt here at e =
    let ones : Field N P → ℕ = λ f. cond (takes_name f) 1 0 in
    let rest = drop (length xs + 1) all in
    let split : all ≡ xs ++ x ∷ rest
    = sym (take-append-drop (length xs) all) ∙ ap (λ l. l ++ drop (length xs) all) (sym so) ∙ ap (λ l. xs ++ l) (drop_more all (length xs) x lt ∙ ap (λ y. y ∷ rest) (sym here)) in
    let counted : count_by takes_name (map view all) ≡ count_by takes_name (map view xs) + (cond (takes_name (view x)) 1 0 + count_by takes_name (map view rest))
    = ap (λ l. count_by takes_name (map view l)) split ∙ ap (count_by takes_name) (map-append view xs (x ∷ rest))
    ∙ sum_by-append ones (map view xs) (view x ∷ map view rest) ∙ ap (λ k. count_by takes_name (map view xs) + k) (sum_by-cons ones (view x) (map view rest)) in
    let bound = within_one (takes_name (view x)) n (count_by takes_name (map view xs)) (count_by takes_name (map view rest)) g h at e in
    omega (arith, bound, counted)
