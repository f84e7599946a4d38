-- Loops that append what each item of a list is in bytes. Items are seen by `view`, `parts` are what a list of them is made of, and `spell` is
-- a part in bytes.
use Rattle.std.proofs.Common.{ℕ, ◌≡◌, ◌+◌, ◌<◌, ◌≤◌, List, [], ◌∷◌, ◌++◌, length, map, take, drop, get_or, ap, sym, subst, ◌∙◌, arith, flat_map, length-append}
use Rattle.std.specs.Prelude.{All}
use Rattle.std.proofs.lemmas.List.{map_more, map-append, append-nil, take-append-drop}
use Rattle.std.proofs.lemmas.List.Concat.{flat_map-append}
use Rattle.std.proofs.lemmas.List.Elements.{All-nil, All-cons, All-head, All-tail, All-append}
use Rattle.wasm_encoder_base.specs.Lists.{listed}
use Rattle.wast_custom_sections.specs.Parts.{joined}
use Rattle.wast_custom_sections.proofs.Sizes.{append_size}

pub joined_listed : {A : Type 0} (spell : A → List ℕ) (xs ys : List A) → joined (listed spell xs) (listed spell ys) ≡ listed spell (xs ++ ys)
joined_listed spell xs ys =
    let count : length xs + length ys ≡ length (xs ++ ys) = sym (length-append xs ys) in
    let bytes : flat_map spell xs ++ flat_map spell ys ≡ flat_map spell (xs ++ ys) = sym (flat_map-append spell xs ys) in
    (λ i. record { count = count i; bytes = bytes i })

-- what holds of each item of a list holds of the items of its parts
pub all_before : {X : Type 0} (P : X → Type 0) (xs ys : List X) → All P (xs ++ ys) → All P xs
all_before P [] ys h = All-nil P
all_before P (x ∷ xs) ys h = All-cons P x xs (All-head P x (xs ++ ys) h) (all_before P xs ys (All-tail P x (xs ++ ys) h))

pub all_behind : {X : Type 0} (P : X → Type 0) (xs ys : List X) → All P (xs ++ ys) → All P ys
all_behind P [] ys h = h
all_behind P (x ∷ xs) ys h = all_behind P xs ys (All-tail P x (xs ++ ys) h)

module _ {A B C : Type 0} (parts : List B → List C) (append : (xs ys : List B) → parts (xs ++ ys) ≡ parts xs ++ parts ys) (spell : C → List ℕ) (view : A → B) where
  -- one more item
  pub parts_more : (xs : List A) (i : ℕ) (x : A) → i < length xs → x ≡ get_or xs i x → parts (map view (take i xs)) ++ parts (view x ∷ []) ≡ parts (map view (take (i + 1) xs))
  parts_more xs i x l e =
      sym (append (map view (take i xs)) (view x ∷ []))
      ∙ ap (λ y. parts (map view (take i xs) ++ view y ∷ [])) e
      ∙ ap parts (sym (map_more view xs i x l))

  pub bytes_more : (xs : List A) (i : ℕ) (x : A) {before after : List ℕ} → i < length xs → x ≡ get_or xs i x →
      before ≡ flat_map spell (parts (map view (take i xs))) → after ≡ before ++ flat_map spell (parts (view x ∷ [])) → after ≡ flat_map spell (parts (map view (take (i + 1) xs)))
  bytes_more xs i x l e p q =
      q
      ∙ ap (λ v. v ++ flat_map spell (parts (view x ∷ []))) p
      ∙ sym (flat_map-append spell (parts (map view (take i xs))) (parts (view x ∷ [])))
      ∙ ap (flat_map spell) (parts_more xs i x l e)

  -- what is there and one more item take no more bytes than all
  pub step_size : (xs : List A) (i : ℕ) (x : A) → i < length xs → x ≡ get_or xs i x →
      length (flat_map spell (parts (map view (take i xs)))) + length (flat_map spell (parts (view x ∷ []))) ≤ length (flat_map spell (parts (map view xs)))
  step_size xs i x l e =
      let done = take (i + 1) xs in
      let rest = drop (i + 1) xs in
      let more = ap (λ v. length (flat_map spell v)) (parts_more xs i x l e) in
      let front = append_size spell (parts (map view (take i xs))) (parts (view x ∷ [])) in
      let whole = append_size spell (parts (map view done)) (parts (map view rest)) in
      let both = ap (λ v. length (flat_map spell v)) (sym (append (map view done) (map view rest)) ∙ ap parts (sym (map-append view done rest)) ∙ ap (λ ys. parts (map view ys)) (take-append-drop (i + 1) xs)) in
      omega arith

  -- all parts: those before an item, its own, and those behind it
  pub split : (xs : List A) (i : ℕ) (x : A) → i < length xs → x ≡ get_or xs i x → parts (map view xs) ≡ (parts (map view (take i xs)) ++ parts (view x ∷ [])) ++ parts (map view (drop (i + 1) xs))
  split xs i x l e =
      ap (λ ys. parts (map view ys)) (sym (take-append-drop (i + 1) xs))
      ∙ ap parts (map-append view (take (i + 1) xs) (drop (i + 1) xs))
      ∙ append (map view (take (i + 1) xs)) (map view (drop (i + 1) xs))
      ∙ ap (λ ps. ps ++ parts (map view (drop (i + 1) xs))) (sym (parts_more xs i x l e))

  -- what holds of all parts holds of those of an item
  pub part_of_all : (P : C → Type 0) (xs : List A) (i : ℕ) (x : A) → i < length xs → x ≡ get_or xs i x → All P (parts (map view xs)) → All P (parts (view x ∷ []))
  part_of_all P xs i x l e h =
      let front = parts (map view (take i xs)) in
      let one = parts (view x ∷ []) in
      let rest = parts (map view (drop (i + 1) xs)) in
      all_behind P front one (all_before P (front ++ one) rest (subst (All P) (split xs i x l e) h))

  -- and what holds of those so far and of those of an item holds of both
  pub all_more : (P : C → Type 0) (xs : List A) (i : ℕ) (x : A) → i < length xs → x ≡ get_or xs i x → All P (parts (map view (take i xs))) → All P (parts (view x ∷ [])) → All P (parts (map view (take (i + 1) xs)))
  all_more P xs i x l e f g = subst (All P) (parts_more xs i x l e) (All-append P (parts (map view (take i xs))) (parts (view x ∷ [])) f g)

-- The same where parts stand for items one by one, and what they are stands behind them.
module _ {A B C : Type 0} (f : B → List C) (view : A → B) (xs : List A) (i : ℕ) (x : A) (l : i < length xs) (e : x ≡ get_or xs i x) where
  pub flat_more : flat_map f (map view (take (i + 1) xs)) ≡ flat_map f (map view (take i xs)) ++ f (view x)
  flat_more =
      sym (parts_more (flat_map f) (flat_map-append f) (λ c. []) view xs i x l e)
      ∙ ap (λ v. flat_map f (map view (take i xs)) ++ v) (append-nil (f (view x)))

  pub flat_split : flat_map f (map view xs) ≡ (flat_map f (map view (take i xs)) ++ f (view x)) ++ flat_map f (map view (drop (i + 1) xs))
  flat_split =
      let rest = drop (i + 1) xs in
      ap (λ ys. flat_map f (map view ys)) (sym (take-append-drop (i + 1) xs))
      ∙ ap (flat_map f) (map-append view (take (i + 1) xs) rest)
      ∙ flat_map-append f (map view (take (i + 1) xs)) (map view rest)
      ∙ ap (λ v. v ++ flat_map f (map view rest)) flat_more
