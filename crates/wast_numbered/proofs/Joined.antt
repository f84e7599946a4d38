-- Items that join a space one after the other.
use Rattle.std.proofs.Common.{◌≡◌, ℕ, zero, suc, ◌+◌, ◌<◌, ◌≤◌, List, [], ◌∷◌, ◌++◌, Option, None, map, take, length, replicate, get_or, refl, sym, ◌∙◌, ap, add-one}
use Rattle.std.proofs.lemmas.List.{map-append, take_more, take_all}
use Rattle.std.proofs.lemmas.Simd.{map-map}
use Rattle.wast_grammar.specs.Tokens.{Name}
use Rattle.wast_grammar.specs.Spelling.{same_name}
use Rattle.wast_parser.specs.Identifiers.{Named}
use Rattle.wast_names.specs.Space as names
use Rattle.wast_names.proofs.Walk.{reached_append}
use Rattle.wast_numbered.specs.Place.{joined}

abbrev grows : names.Space Name → Option (Named Name ℕ) → names.Space Name
grows t id = names.grown same_name t (names.name_in id)

-- LOOPS
pub joined_more : {X : Type 0} (v : X → Option (Named Name ℕ)) (s now new : names.Space Name) (xs : List X) (i : ℕ) (x : X) → i < length xs → x ≡ get_or xs i x
    → now ≡ joined s (map v (take i xs)) → new ≡ names.grown same_name now (names.name_in (v x)) → new ≡ joined s (map v (take (i + 1) xs))
joined_more v s now new xs i x lt at before grown =
    grown ∙ ap (λ t. grows t (v x)) before
    ∙ sym (ap (λ l. joined s (map v l)) (take_more xs i x lt ∙ ap (λ y. take i xs ++ y ∷ []) (sym at)) ∙ ap (joined s) (map-append v (take i xs) (x ∷ [])) ∙ reached_append grows s (map v (take i xs)) (v x ∷ []))

pub joined_all : {X Y : Type 0} (g : Y → Option (Named Name ℕ)) (h : X → Y) (s now : names.Space Name) (xs : List X) (i : ℕ) → length xs ≤ i
    → now ≡ joined s (map (λ x. g (h x)) (take i xs)) → now ≡ joined s (map g (map h xs))
joined_all g h s now xs i end before = before ∙ ap (λ l. joined s (map (λ x. g (h x)) l)) (take_all i xs end) ∙ ap (joined s) (sym (map-map g h xs))

-- one more without a name
one_later : (n : ℕ) (s : names.Space Name) → joined (names.grown same_name s None) (replicate n None) ≡ names.grown same_name (joined s (replicate n None)) None
one_later zero s = refl
one_later (suc n) s = one_later n (names.grown same_name s None)

pub nameless_more : (s now new : names.Space Name) (n : ℕ) → now ≡ joined s (replicate n None) → new ≡ names.grown same_name now None → new ≡ joined s (replicate (n + 1) None)
nameless_more s now new n before grown = rw (add-one) (grown ∙ ap (λ t. names.grown same_name t None) before ∙ sym (one_later n s))
