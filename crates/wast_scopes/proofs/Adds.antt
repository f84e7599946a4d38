-- Loops that add to a list what each element of another gives.
use Rattle.std.proofs.Common.{◌≡◌, ℕ, ◌+◌, ◌<◌, ◌≤◌, List, [], ◌∷◌, ◌++◌, map, take, length, get_or, refl, sym, ◌∙◌, ap}
use Rattle.std.specs.List.{flat_map}
use Rattle.std.proofs.lemmas.List.{map-append, append_assoc, append-nil, take_more, take_all}
use Rattle.std.proofs.lemmas.List.Concat.{flat_map-append}

module _ {X A B : Type 0} (h : A → B) (f : X → List A) where
  pub adds_more : (s t u : List B) (xs : List X) (i : ℕ) (x : X) → i < length xs → x ≡ get_or xs i x → t ≡ s ++ map h (flat_map f (take i xs)) → u ≡ t ++ map h (f x)
      → u ≡ s ++ map h (flat_map f (take (i + 1) xs))
  adds_more s t u xs i x lt at before new =
      let front : List A = flat_map f (take i xs) in
      let more : flat_map f (take (i + 1) xs) ≡ front ++ f x =
      ap (flat_map f) (take_more xs i x lt ∙ ap (λ y. take i xs ++ y ∷ []) (sym at)) ∙ flat_map-append f (take i xs) (x ∷ []) ∙ ap (λ l. front ++ l) (append-nil (f x)) in
      new ∙ ap (λ l. l ++ map h (f x)) before ∙ append_assoc s (map h front) (map h (f x)) ∙ ap (λ l. s ++ l) (sym (ap (map h) more ∙ map-append h front (f x)))

  pub adds_all : (s t : List B) (xs : List X) (i : ℕ) (ys : List A) → length xs ≤ i → flat_map f xs ≡ ys → t ≡ s ++ map h (flat_map f (take i xs)) → t ≡ s ++ map h ys
  adds_all s t xs i ys end same now = now ∙ ap (λ l. s ++ map h (flat_map f l)) (take_all i xs end) ∙ ap (λ l. s ++ map h l) same

pub one_each : {X Y Z : Type 0} (g : Y → Z) (v : X → Y) (xs : List X) → flat_map (λ x. g (v x) ∷ []) xs ≡ map g (map v xs)
one_each g v [] = refl
one_each g v (x ∷ xs) = ap (λ l. g (v x) ∷ l) (one_each g v xs)

pub one_paired : {X Y W Z : Type 0} (g : W → Z) (p : Y → W) (v : X → Y) (xs : List X) → flat_map (λ x. g (p (v x)) ∷ []) xs ≡ map g (map p (map v xs))
one_paired g p v [] = refl
one_paired g p v (x ∷ xs) = ap (λ l. g (p (v x)) ∷ l) (one_paired g p v xs)

pub some_each : {X Y W Z : Type 0} (g : W → Z) (w : Y → List W) (v : X → Y) (xs : List X) → flat_map (λ x. map g (w (v x))) xs ≡ map g (flat_map w (map v xs))
some_each g w v [] = refl
some_each g w v (x ∷ xs) = ap (λ l. map g (w (v x)) ++ l) (some_each g w v xs) ∙ sym (map-append g (w (v x)) (flat_map w (map v xs)))
