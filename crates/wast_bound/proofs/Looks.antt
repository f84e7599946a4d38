-- Whether a name means something in a list, and whether an item of the list bears it.
use Rattle.std.proofs.Common.{◌≡◌, ℕ, suc, ◌+◌, arith, Bool, true, false, ◌&&◌, ◌||◌, List, [], ◌∷◌, Option, Some, None, cond, refl, ◌∙◌, ap}
use Rattle.std.specs.Prelude.{if◌then◌else◌, is_some, map, filter, slice_get, option_map, option_and_then}
use Rattle.std.specs.Option.{option_or}
use Rattle.std.specs.List.{list_any, find, position_from}
use Rattle.wasm_encoder_base.specs.Table.{Space}
use Rattle.wast_grammar.specs.Tokens.{Name}
use Rattle.wast_grammar.specs.Spelling.{same_name}
use Rattle.wast_names.specs.Position.{bears, position, last_from, last_position}
use Rattle.wast_names.specs.Space.{name_in, last_counts, denoted}
use Rattle.wast_meaning.specs.Spaces.{Bound, same_space}
use Rattle.wast_bound.specs.Bound.{joins}

-- FIRST PLACES
some_place : {X : Type 0} (p : X → Bool) (i : ℕ) (xs : List X) → is_some (position_from p i xs) ≡ list_any p xs
some_place p i [] = refl
some_place p i (x ∷ xs) =
    elim (p x) as (λ b. is_some (cond b (Some i) (position_from p (i + 1) xs)) ≡ (b || list_any p xs)) [
      | true ↦ refl
      | false ↦ some_place p (i + 1) xs
    ]

pub some_position : (n : Name) (items : List (Option Name)) → is_some (position same_name n items) ≡ list_any (bears same_name n) items
some_position n items = some_place (bears same_name n) 0 items

-- LAST PLACES
or_some : (o : Option ℕ) (i : ℕ) → is_some (option_or o (Some i)) ≡ true
or_some None i = refl
or_some (Some j) i = refl

or_none : (o : Option ℕ) → is_some (option_or o None) ≡ is_some o
or_none None = refl
or_none (Some j) = refl

some_last : (n : Name) (i : ℕ) (items : List (Option Name)) → is_some (last_from same_name n i items) ≡ list_any (bears same_name n) items
some_last n i [] = refl
some_last n i (item ∷ items) =
    let later = last_from same_name n (i + 1) items in
    elim (bears same_name n item) as (λ b. is_some (option_or later (if b then Some i else None)) ≡ (b || list_any (bears same_name n) items)) [
      | true ↦ or_some later i
      | false ↦ or_none later ∙ some_last n (i + 1) items
    ]

pub some_denoted : (kind : List ℕ) (n : Name) (items : List (Option Name)) → is_some (denoted same_name kind n items) ≡ list_any (bears same_name n) items
some_denoted kind n items =
    elim (last_counts kind) as (λ b. is_some (if b then last_position same_name n items else position same_name n items) ≡ list_any (bears same_name n) items) [
      | true ↦ some_last n 0 items
      | false ↦ some_position n items
    ]

-- ITEMS OF A SPACE among those of all
pub filtered : {X : Type 0} (p : X → Bool) (x : X) (xs : List X) (b : Bool) → p x ≡ b → filter p (x ∷ xs) ≡ cond b (x ∷ filter p xs) (filter p xs)
filtered p x xs b e = ap (λ c. cond c (x ∷ filter p xs) (filter p xs)) e

abbrev borne : Name → List (Bound Name ℕ) → Bool
borne n bs = list_any (bears same_name n) (map name_in (map (λ b. b.id) bs))

pub some_joins : (s : Space) (n : Name) (bs : List (Bound Name ℕ)) → borne n (filter (λ b. same_space s b.space) bs) ≡ list_any (joins s n) bs
some_joins s n [] = refl
some_joins s n (b ∷ bs) =
    elim (same_space s b.space) as (λ t. borne n (cond t (b ∷ filter (λ x. same_space s x.space) bs) (filter (λ x. same_space s x.space) bs)) ≡ ((t && bears same_name n (name_in b.id)) || list_any (joins s n) bs)) [
      | true ↦ ap (λ t. bears same_name n (name_in b.id) || t) (some_joins s n bs)
      | false ↦ some_joins s n bs
    ]

-- WHAT STANDS at the first place
shifted : {X : Type 0} (p : X → Bool) (i : ℕ) (xs : List X) → position_from p (i + 1) xs ≡ option_map (λ k. k + 1) (position_from p i xs)
shifted p i [] = refl
shifted p i (x ∷ xs) =
    elim (p x) as (λ b. cond b (Some (i + 1)) (position_from p (i + 1 + 1) xs) ≡ option_map (λ k. k + 1) (cond b (Some i) (position_from p (i + 1) xs))) [
      | true ↦ refl
      | false ↦ shifted p (i + 1) xs
    ]

behind : {X : Type 0} (x : X) (xs : List X) (o : Option ℕ) → option_and_then (slice_get (x ∷ xs)) (option_map (λ k. k + 1) o) ≡ option_and_then (slice_get xs) o
behind x xs None = refl
behind x xs (Some k) = let next : k + 1 ≡ suc k = omega arith in ap (slice_get (x ∷ xs)) next

pub found : {X : Type 0} (p : X → Bool) (xs : List X) → option_and_then (slice_get xs) (position_from p 0 xs) ≡ find p xs
found p [] = refl
found p (x ∷ xs) =
    elim (p x) as (λ b. option_and_then (slice_get (x ∷ xs)) (cond b (Some 0) (position_from p 1 xs)) ≡ cond b (Some x) (find p xs)) [
      | true ↦ refl
      | false ↦ ap (option_and_then (slice_get (x ∷ xs))) (shifted p 0 xs) ∙ behind x xs (position_from p 0 xs) ∙ found p xs
    ]

pub seen_from : {X Y : Type 0} (p : Y → Bool) (view : X → Y) (i : ℕ) (xs : List X) → position_from p i (map view xs) ≡ position_from (λ x. p (view x)) i xs
seen_from p view i [] = refl
seen_from p view i (x ∷ xs) = ap (λ o. cond (p (view x)) (Some i) o) (seen_from p view (i + 1) xs)
