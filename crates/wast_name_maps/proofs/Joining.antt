-- What comes behind what has come.
use Rattle.std.proofs.Common.{◌≡◌, ℕ, zero, suc, ◌+◌, ◌<◌, ◌≤◌, ◌^◌, List, [], ◌∷◌, ◌++◌, length, take, drop, get_or, Result, Ok, Err, refl, sym, subst, ◌∙◌, ap, arith, append_assoc, append-nil, take_all, length-append}
use Rattle.std.specs.List.{flat_map, AllByRecursion}
use Rattle.std.proofs.lemmas.Grind.{flat_map-append}
use Rattle.wasm_encoder_bytes.specs.declared.error.EncodeError.{EncodeError}
use Rattle.wasm_encoder_bytes.specs.declared.error.EncodeError.TheVariants.{TooLarge}
use Rattle.wasm_encoder_base.specs.Lists.{with_item, with_items, HasRoom}
use Rattle.wasm_layout.proofs.Joined.{all_joined, all_front, all_back}
use Rattle.wast_meant.specs.NamesMeant.{entries}
use Rattle.wast_spaces.proofs.Joins.{one_more, all_of}
use Rattle.wast_name_maps.specs.Numbered.{Numbered, none_yet, behind, Fit, Joined, Joins}

-- SO MANY: counts that fit together, and apart
count_front : (c a b : ℕ) → (0 < a + b → c + (a + b) < 2 ^ 32) → 0 < a → c + a < 2 ^ 32
count_front c a b h l = let whole = h (omega arith) in omega arith

count_back : (c a b : ℕ) → (0 < a + b → c + (a + b) < 2 ^ 32) → 0 < b → (c + a) + b < 2 ^ 32
count_back c a b h l = let whole = h (omega arith) in omega arith

count_both : (c a b : ℕ) → (0 < a → c + a < 2 ^ 32) → (0 < b → (c + a) + b < 2 ^ 32) → 0 < a + b → c + (a + b) < 2 ^ 32
count_both c a zero f g l = let front = f (omega arith) in omega arith
count_both c a (suc b) f g l = let back = g (omega arith) in omega arith

never : (c : ℕ) → 0 < 0 → c + 0 < 2 ^ 32
never c l = omega arith

-- ENTRIES of one list behind another
pub entries_then : {A B : Type 0} (one : ℕ → A → List B) (n : ℕ) (xs ys : List A) → entries one n (xs ++ ys) ≡ entries one n xs ++ entries one (n + length xs) ys
entries_then one n [] ys = let z : n ≡ n + 0 = omega arith in ap (λ k. entries one k ys) z
entries_then one n (x ∷ xs) ys =
    let z : suc n + length xs ≡ n + suc (length xs) = omega arith in
    ap (λ v. one n x ++ v) (entries_then one (suc n) xs ys ∙ ap (λ k. entries one (suc n) xs ++ entries one k ys) z)
    ∙ sym (append_assoc (one n x) (entries one (suc n) xs) (entries one (n + suc (length xs)) ys))

-- what fits together and apart
module _ {A B : Type 0} {one : ℕ → A → List B} {CanBe : B → Type 0} where
  fit_front : (s : Numbered) (xs ys : List A) → Fit one CanBe s (xs ++ ys) → Fit one CanBe s xs
  fit_front s xs ys h =
      let front = entries one s.next xs in
      let back = entries one (s.next + length xs) ys in
      let sum : length (entries one s.next (xs ++ ys)) ≡ length front + length back = ap length (entries_then one s.next xs ys) ∙ length-append front back in
      record {
        each = all_front CanBe front back (subst (AllByRecursion CanBe) (entries_then one s.next xs ys) h.each);
        count = count_front s.list.count (length front) (length back) (subst (λ k. 0 < k → s.list.count + k < 2 ^ 32) sum h.count);
      }

  pub unfit_front : (s : Numbered) (xs ys : List A) (e : EncodeError) → (e ≡ TooLarge → ¬ Fit one CanBe s xs) → e ≡ TooLarge → ¬ Fit one CanBe s (xs ++ ys)
  unfit_front s xs ys e h is fits = h is (fit_front s xs ys fits)

  pub built_front : (start : Numbered) (xs ys : List A) (e : EncodeError) → start ≡ none_yet → (e ≡ TooLarge → ¬ Fit one CanBe start xs) → e ≡ TooLarge → ¬ Fit one CanBe none_yet (xs ++ ys)
  built_front start xs ys e begins h = subst (λ s. e ≡ TooLarge → ¬ Fit one CanBe s (xs ++ ys)) begins (unfit_front start xs ys e h)

  pub fit_nothing : (s : Numbered) (xs : List A) → entries one s.next xs ≡ [] → Fit one CanBe s xs
  fit_nothing s xs e = record { each = subst (AllByRecursion CanBe) (sym e) tt; count = subst (λ v. 0 < length v → s.list.count + length v < 2 ^ 32) (sym e) (never s.list.count) }

  pub can_single : (s : Numbered) (xs : List A) (b : B) → entries one s.next xs ≡ b ∷ [] → Fit one CanBe s xs → CanBe b
  can_single s xs b e h = (subst (AllByRecursion CanBe) e h.each).0

  pub room_single : (s : Numbered) (xs : List A) (b : B) → entries one s.next xs ≡ b ∷ [] → Fit one CanBe s xs → HasRoom s.list
  room_single s xs b e h = subst (λ v. 0 < length v → s.list.count + length v < 2 ^ 32) e h.count (omega arith)

abbrev made : ℕ → List ℕ → ℕ → Numbered
made count bytes next = record { list = record { count = count; bytes = bytes }; next = next }

module _ {A B : Type 0} (one : ℕ → A → List B) (spell : B → List ℕ) where
  behind_then : (s : Numbered) (xs ys : List A) → behind one spell (behind one spell s xs) ys ≡ behind one spell s (xs ++ ys)
  behind_then s xs ys =
      let front = entries one s.next xs in
      let back = entries one (s.next + length xs) ys in
      let whole = entries_then one s.next xs ys in
      let sum : length (entries one s.next (xs ++ ys)) ≡ length front + length back = ap length whole ∙ length-append front back in
      let count : (s.list.count + length front) + length back ≡ s.list.count + length (entries one s.next (xs ++ ys)) = omega arith in
      let bytes : (s.list.bytes ++ flat_map spell front) ++ flat_map spell back ≡ s.list.bytes ++ flat_map spell (entries one s.next (xs ++ ys)) =
      append_assoc s.list.bytes (flat_map spell front) (flat_map spell back) ∙ ap (λ v. s.list.bytes ++ v) (sym (ap (flat_map spell) whole ∙ flat_map-append spell front back)) in
      let next : (s.next + length xs) + length ys ≡ s.next + length (xs ++ ys) = omega (arith, length-append xs ys) in
      λ i. made (count i) (bytes i) (next i)

  module _ (CanBe : B → Type 0) where
    fit_back : (s : Numbered) (xs ys : List A) → Fit one CanBe s (xs ++ ys) → Fit one CanBe (behind one spell s xs) ys
    fit_back s xs ys h =
        let front = entries one s.next xs in
        let back = entries one (s.next + length xs) ys in
        let sum : length (entries one s.next (xs ++ ys)) ≡ length front + length back = ap length (entries_then one s.next xs ys) ∙ length-append front back in
        record {
          each = all_back CanBe front back (subst (AllByRecursion CanBe) (entries_then one s.next xs ys) h.each);
          count = count_back s.list.count (length front) (length back) (subst (λ k. 0 < k → s.list.count + k < 2 ^ 32) sum h.count);
        }

    fit_both : (s : Numbered) (xs ys : List A) → Fit one CanBe s xs → Fit one CanBe (behind one spell s xs) ys → Fit one CanBe s (xs ++ ys)
    fit_both s xs ys f b =
        let front = entries one s.next xs in
        let back = entries one (s.next + length xs) ys in
        let sum : length (entries one s.next (xs ++ ys)) ≡ length front + length back = ap length (entries_then one s.next xs ys) ∙ length-append front back in
        record {
          each = subst (AllByRecursion CanBe) (sym (entries_then one s.next xs ys)) (all_joined CanBe front back f.each b.each);
          count = subst (λ k. 0 < k → s.list.count + k < 2 ^ 32) (sym sum) (count_both s.list.count (length front) (length back) f.count b.count);
        }

-- WHAT HAS COME, one list behind the other
module _ {A B : Type 0} {one : ℕ → A → List B} {spell : B → List ℕ} {CanBe : B → Type 0} where
  -- by the entries that they have
  joined_by : (s new : Numbered) (xs : List A) (es : List B) → entries one s.next xs ≡ es → new ≡ record { list = with_items spell s.list es; next = s.next + length xs } → AllByRecursion CanBe es
      → (0 < length es → s.list.count + length es < 2 ^ 32) → Joined one spell CanBe s new xs
  joined_by s new xs es e same each count = record {
    same = same ∙ ap (λ v. record { list = with_items spell s.list v; next = s.next + length xs }) (sym e);
    fit = record { each = subst (AllByRecursion CanBe) (sym e) each; count = subst (λ v. 0 < length v → s.list.count + length v < 2 ^ 32) (sym e) count };
  }

  pub joined_nothing : (s new : Numbered) (xs : List A) → entries one s.next xs ≡ [] → new ≡ record { list = s.list; next = s.next + length xs } → Joined one spell CanBe s new xs
  joined_nothing s new xs e same =
      let count : s.list.count ≡ s.list.count + 0 = omega arith in
      joined_by s new xs [] e (same ∙ (λ i. made (count i) (sym (append-nil s.list.bytes) i) (s.next + length xs))) tt (never s.list.count)

  pub joined_single : (s new : Numbered) (xs : List A) (b : B) → entries one s.next xs ≡ b ∷ [] → new ≡ record { list = with_item s.list (spell b); next = s.next + length xs } → CanBe b → HasRoom s.list
      → Joined one spell CanBe s new xs
  joined_single s new xs b e same can room =
      joined_by s new xs (b ∷ []) e (same ∙ ap (λ v. made (s.list.count + 1) (s.list.bytes ++ v) (s.next + length xs)) (sym (append-nil (spell b)))) (can, tt) (λ l. room)

  pub joined_none : (s : Numbered) → Joined one spell CanBe s s []
  joined_none s = let next : s.next ≡ s.next + 0 = omega arith in joined_nothing s s [] refl (ap (λ n. record { list = s.list; next = n }) next)

  pub joined_then : (old mid new : Numbered) (xs ys : List A) → Joined one spell CanBe old mid xs → Joined one spell CanBe mid new ys → Joined one spell CanBe old new (xs ++ ys)
  joined_then old mid new xs ys first second = record {
    same = second.same ∙ ap (λ s. behind one spell s ys) first.same ∙ behind_then one spell old xs ys;
    fit = fit_both one spell CanBe old xs ys first.fit (subst (λ s. Fit one CanBe s ys) first.same second.fit);
  }

  pub unfit_then : (old mid : Numbered) (xs ys : List A) (e : EncodeError) → Joined one spell CanBe old mid xs → (e ≡ TooLarge → ¬ Fit one CanBe mid ys) → e ≡ TooLarge → ¬ Fit one CanBe old (xs ++ ys)
  unfit_then old mid xs ys e first h is fits = h is (subst (λ s. Fit one CanBe s ys) (sym first.same) (fit_back one spell CanBe old xs ys fits))

  pub joins_then : {T : Type 0} (r : Result T EncodeError) (old mid new : Numbered) (xs ys : List A) → Joined one spell CanBe old mid xs → Joins one spell CanBe r mid new ys → Joins one spell CanBe r old new (xs ++ ys)
  joins_then (Ok x) old mid new xs ys first second = joined_then old mid new xs ys first second
  joins_then (Err e) old mid new xs ys first second = unfit_then old mid xs ys e first second

  -- of a list that begins
  pub built_back : (start mid : Numbered) (xs ys : List A) (e : EncodeError) → start ≡ none_yet → Joined one spell CanBe start mid xs → (e ≡ TooLarge → ¬ Fit one CanBe mid ys) → e ≡ TooLarge → ¬ Fit one CanBe none_yet (xs ++ ys)
  built_back start mid xs ys e begins first h = subst (λ s. e ≡ TooLarge → ¬ Fit one CanBe s (xs ++ ys)) begins (unfit_then start mid xs ys e first h)

  pub built_both : (start mid new : Numbered) (xs ys : List A) → start ≡ none_yet → Joined one spell CanBe start mid xs → Joined one spell CanBe mid new ys → Joined one spell CanBe none_yet new (xs ++ ys)
  built_both start mid new xs ys begins first second = subst (λ s. Joined one spell CanBe s new (xs ++ ys)) begins (joined_then start mid new xs ys first second)

-- LOOPS over what brings some, element by element
module _ {X A : Type 0} (view : X → List A) where
  module _ {B : Type 0} {one : ℕ → A → List B} {spell : B → List ℕ} {CanBe : B → Type 0} where
    pub joined_more : (old mid new : Numbered) (xs : List X) (i : ℕ) (x : X) → i < length xs → x ≡ get_or xs i x → Joined one spell CanBe old mid (flat_map view (take i xs))
        → Joined one spell CanBe mid new (view x) → Joined one spell CanBe old new (flat_map view (take (i + 1) xs))
    joined_more old mid new xs i x h e first more =
        subst (Joined one spell CanBe old new) (sym (one_more view xs i x h e)) (joined_then old mid new (flat_map view (take i xs)) (view x) first more)

    pub joined_all : (old new : Numbered) (xs : List X) (i : ℕ) (ys : List A) → length xs ≤ i → flat_map view xs ≡ ys → Joined one spell CanBe old new (flat_map view (take i xs)) → Joined one spell CanBe old new ys
    joined_all old new xs i ys h same j = subst (Joined one spell CanBe old new) (ap (flat_map view) (take_all i xs h) ∙ same) j

    pub unfit_at : (old mid : Numbered) (xs : List X) (i : ℕ) (x : X) (ys : List A) (e : EncodeError) → i < length xs → x ≡ get_or xs i x → flat_map view xs ≡ ys
        → Joined one spell CanBe old mid (flat_map view (take i xs)) → (e ≡ TooLarge → ¬ Fit one CanBe mid (view x)) → e ≡ TooLarge → ¬ Fit one CanBe old ys
    unfit_at old mid xs i x ys e h is same first unfit =
        subst (λ l. e ≡ TooLarge → ¬ Fit one CanBe old l) (sym (all_of view xs i x h is) ∙ same)
        (unfit_front old (flat_map view (take i xs) ++ view x) (flat_map view (drop (i + 1) xs)) e (unfit_then old mid (flat_map view (take i xs)) (view x) e first unfit))

-- LISTS of which each element brings some
pub flat_of : {A B C : Type 0} (g : B → List C) (f : A → List B) (xs : List A) → flat_map (λ x. flat_map g (f x)) xs ≡ flat_map g (flat_map f xs)
flat_of g f [] = refl
flat_of g f (x ∷ xs) = ap (λ v. flat_map g (f x) ++ v) (flat_of g f xs) ∙ sym (flat_map-append g (f x) (flat_map f xs))
