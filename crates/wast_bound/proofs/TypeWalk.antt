-- Loops over the types of fields.
use Rattle.std.proofs.Common.{◌≡◌, ℕ, zero, suc, ◌+◌, ◌-◌, ◌<◌, ◌≤◌, Bool, List, [], ◌∷◌, ◌++◌, Option, Some, None, map, drop, length, get_or, refl, sym, ◌∙◌, ap, arith}
use Rattle.std.specs.Prelude.{slice_get, option_map, unwrap_or}
use Rattle.std.specs.Option.{option_or}
use Rattle.std.specs.List.{flat_map, find}
use Rattle.std.proofs.lemmas.List.{drop_more}
use Rattle.std.proofs.lemmas.List.Folds.{find-append}

in_front : {X : Type 0} (xs ys : List X) (k : ℕ) → k < length xs → slice_get (xs ++ ys) k ≡ slice_get xs k
in_front [] ys k lt = absurd (omega (arith, lt))
in_front (x ∷ xs) ys zero lt = refl
in_front (x ∷ xs) ys (suc k) lt = in_front xs ys k (omega (arith, lt))

past : {X : Type 0} (xs ys : List X) (k : ℕ) → length xs ≤ k → slice_get (xs ++ ys) k ≡ slice_get ys (k - length xs)
past [] ys k le = let same : k ≡ k - 0 = omega arith in ap (slice_get ys) same
past (x ∷ xs) ys zero le = absurd (omega (arith, le))
past (x ∷ xs) ys (suc k) le = let less : k - length xs ≡ suc k - suc (length xs) = omega arith in past xs ys k (omega (arith, le)) ∙ ap (slice_get ys) less

-- A loop over xs, whose i-th element is x and writes the types ts.
module _ {X Y T : Type 0} (view : X → Y) (writes : Y → List T) (xs : List X) where
  -- those from a place on
  abbrev pub types_from : ℕ → List T
  types_from i = flat_map writes (map view (drop i xs))

  module _ (i : ℕ) where
    here : (x : X) (ts : List T) → i < length xs → x ≡ get_or xs i x → ts ≡ writes (view x) → types_from i ≡ ts ++ types_from (i + 1)
    here x ts lt at same = ap (λ ys. flat_map writes (map view ys)) (drop_more xs i x lt ∙ ap (λ y. y ∷ drop (i + 1) xs) (sym at)) ∙ ap (λ l. l ++ types_from (i + 1)) (sym same)

    -- BY NUMBER
    pub number_here : (x : X) (ts : List T) (k : ℕ) (whole : Option T) → i < length xs → x ≡ get_or xs i x → ts ≡ writes (view x) → k < length ts → slice_get (types_from i) k ≡ whole → slice_get ts k ≡ whole
    number_here x ts k whole lt at same less l = sym (in_front ts (types_from (i + 1)) k less) ∙ sym (ap (λ l. slice_get l k) (here x ts lt at same)) ∙ l

    pub number_past : (x : X) (ts : List T) (k : ℕ) (whole : Option T) → i < length xs → x ≡ get_or xs i x → ts ≡ writes (view x) → length ts ≤ k → slice_get (types_from i) k ≡ whole
        → slice_get (types_from (i + 1)) (k - length ts) ≡ whole
    number_past x ts k whole lt at same le l = sym (past ts (types_from (i + 1)) k le) ∙ sym (ap (λ l. slice_get l k) (here x ts lt at same)) ∙ l

    -- BY A TEST
    module _ (p : T → Bool) where
      found_or : (x : X) (ts : List T) → i < length xs → x ≡ get_or xs i x → ts ≡ writes (view x) → find p (types_from i) ≡ option_or (find p ts) (find p (types_from (i + 1)))
      found_or x ts lt at same = ap (find p) (here x ts lt at same) ∙ find-append p ts (types_from (i + 1))

      pub found_here : (x : X) (ts : List T) (t : T) (whole : Option T) → i < length xs → x ≡ get_or xs i x → ts ≡ writes (view x) → Some t ≡ find p ts → find p (types_from i) ≡ whole → Some t ≡ whole
      found_here x ts t whole lt at same one l = ap (λ o. option_or o (find p (types_from (i + 1)))) one ∙ sym (found_or x ts lt at same) ∙ l

      pub found_past : (x : X) (ts : List T) (whole : Option T) → i < length xs → x ≡ get_or xs i x → ts ≡ writes (view x) → None ≡ find p ts → find p (types_from i) ≡ whole → find p (types_from (i + 1)) ≡ whole
      found_past x ts whole lt at same none l = ap (λ o. option_or o (find p (types_from (i + 1)))) none ∙ sym (found_or x ts lt at same) ∙ l

      -- where it is told what h says of the first that passes
      module _ (h : Option T → Bool) where
        some_told : (x : X) (b : Bool) (o : Option T) (whole : Option T) → i < length xs → x ≡ get_or xs i x → o ≡ find p (writes (view x)) → Some b ≡ option_map (λ t. h (Some t)) o → find p (types_from i) ≡ whole → b ≡ h whole
        some_told x b None whole lt at same told l = absurd (cc)
        some_told x b (Some t) whole lt at same told l = ap (λ r. unwrap_or r b) told ∙ ap h (found_here x (writes (view x)) t whole lt at refl same l)

        pub told_here : (x : X) (b : Bool) (whole : Option T) → i < length xs → x ≡ get_or xs i x → Some b ≡ option_map (λ t. h (Some t)) (find p (writes (view x))) → find p (types_from i) ≡ whole → b ≡ h whole
        told_here x b whole lt at told l = some_told x b (find p (writes (view x))) whole lt at refl told l

        none_told : (o : Option T) → None ≡ option_map (λ t. h (Some t)) o → None ≡ o
        none_told None told = refl
        none_told (Some t) told = absurd (cc)

        pub told_past : (x : X) (whole : Option T) → i < length xs → x ≡ get_or xs i x → None ≡ option_map (λ t. h (Some t)) (find p (writes (view x))) → find p (types_from i) ≡ whole → find p (types_from (i + 1)) ≡ whole
        told_past x whole lt at told l = found_past x (writes (view x)) whole lt at refl (none_told (find p (writes (view x))) told) l
