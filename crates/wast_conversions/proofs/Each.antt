-- What holds of each item of a list of trees, told of each value that one is the tree of.
use Rattle.std.proofs.Common.{◌≡◌, ℕ, ◌+◌, ◌<◌, ◌≤◌, List, [], ◌∷◌, ◌++◌, map, take, length, All, slice_index_or, sym, subst, ap, ◌∙◌}
use Rattle.std.specs.Prelude.{Result, Ok, Err, OnOk}
use Rattle.std.specs.List.{flat_map, AllByRecursion}
use Rattle.std.proofs.lemmas.List.{take_all, take_more, map-append}
use Rattle.std.proofs.lemmas.List.Elements.{All-nil, All-cons, All-head, All-tail, All-more, All-same, All-map, recursion_from_All}
use Rattle.wast_conversions.proofs.Empty.{front, back}

pub each_of : {A B : Type 0} (P : B → Type 0) (f : A → B) (xs : List A) → All P (map f xs) → All (λ x. P (f x)) xs
each_of P f [] h = All-nil (λ x. P (f x))
each_of P f (x ∷ xs) h = All-cons (λ x. P (f x)) x xs (All-head P (f x) (map f xs) h) (each_of P f xs (All-tail P (f x) (map f xs) h))

pub none_of : {A B C : Type 0} (g : B → List C) (f : A → B) (xs : List A) → flat_map g (map f xs) ≡ [] → All (λ x. g (f x) ≡ []) xs
none_of g f [] e = All-nil (λ x. g (f x) ≡ [])
none_of g f (x ∷ xs) e =
    All-cons (λ x. g (f x) ≡ []) x xs (front (g (f x)) (flat_map g (map f xs)) e) (none_of g f xs (back (g (f x)) (flat_map g (map f xs)) e))

-- the same of one of them, read from the list
pub of_item : {A B : Type 0} (P : B → Type 0) (f : A → B) (xs : List A) (k : ℕ) (x : A) → k < length xs → x ≡ slice_index_or xs k x → All P (map f xs) → P (f x)
of_item {A} P f xs k x l e h = let Q : A → Type 0 = λ y. P (f y) in subst Q (sym e) (each_of P f xs h k x l)

pub none_of_item : {A B C : Type 0} (g : B → List C) (f : A → B) (xs : List A) (k : ℕ) (x : A) → k < length xs → x ≡ slice_index_or xs k x → flat_map g (map f xs) ≡ [] → g (f x) ≡ []
none_of_item {A} g f xs k x l e h = let Q : A → Type 0 = λ y. g (f y) ≡ [] in subst Q (sym e) (none_of g f xs h k x l)

-- what holds of each of a list holds of one that is read from it
pub at_item : {A : Type 0} (P : A → Type 0) (xs : List A) (k : ℕ) (x : A) → k < length xs → x ≡ slice_index_or xs k x → All P xs → P x
at_item P xs k x l e h = subst P (sym e) (h k x l)

-- Of one of them more the same is meant, and the same holds; so it does of what all of them mean.
pub more_meant : {A B C : Type 0} (g : B → C) (f : A → B) (xs : List A) (k : ℕ) (x : A) (us vs : List C) (u : C) → k < length xs → x ≡ slice_index_or xs k x
    → us ≡ map g (map f (take k xs)) → u ≡ g (f x) → vs ≡ us ++ u ∷ [] → vs ≡ map g (map f (take (k + 1) xs))
more_meant g f xs k x us vs u l e h q p =
    let s = slice_index_or xs k x in
    let more = ap (λ ys. map g (map f ys)) (take_more xs k x l) ∙ ap (map g) (map-append f (take k xs) (s ∷ [])) ∙ map-append g (map f (take k xs)) (f s ∷ []) in
    p ∙ ap (λ ys. ys ++ u ∷ []) h ∙ ap (λ y. map g (map f (take k xs)) ++ y ∷ []) (q ∙ ap (λ y. g (f y)) e) ∙ sym more

pub more_viewed : {R C : Type 0} (view : R → C) (ys zs : List R) (y : R) → zs ≡ ys ++ y ∷ [] → map view zs ≡ map view ys ++ view y ∷ []
more_viewed view ys zs y p = ap (map view) p ∙ map-append view ys (y ∷ [])

pub one_more : {A : Type 0} (P : A → Type 0) (xs : List A) (k : ℕ) (x : A) → k < length xs → x ≡ slice_index_or xs k x → All P (take k xs) → P x → All P (take (k + 1) xs)
one_more P xs k x l e h p = All-more P xs k x l h (subst P e p)

pub each_meant : {A B C : Type 0} (P : C → Type 0) (g : B → C) (f : A → B) (xs : List A) (k : ℕ) → length xs ≤ k → All (λ x. P (g (f x))) (take k xs) → AllByRecursion P (map g (map f xs))
each_meant {A} P g f xs k l h =
    let Q : A → Type 0 = λ x. P (g (f x)) in
    recursion_from_All P (map g (map f xs)) (All-map P g (map f xs) (All-map (λ y. P (g y)) f xs (All-same Q xs (take k xs) (sym (take_all k xs l)) h)))

-- what holds whatever is answered
pub anyway : {A E P : Type 0} (r : Result A E) → P → OnOk r P
anyway (Ok x) h = h
anyway (Err e) h = tt
