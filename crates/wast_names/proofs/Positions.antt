-- The space of a list of items tells where the names stand.
use Rattle.std.proofs.Common.{◌≡◌, ℕ, ◌+◌, List, [], ◌∷◌, Option, Some, None, Bool, true, false, length, map, refl, sym, ◌∙◌, ap, arith}
use Rattle.std.specs.Prelude.{if◌then◌else◌}
use Rattle.std.specs.List.{position_from}
use Rattle.std.specs.Option.{option_or}
use Rattle.std.proofs.lemmas.List.{length-map}
use Rattle.wast_parser.specs.Identifiers.{Named}
use Rattle.wast_names.specs.Walk.{reached}
use Rattle.wast_names.specs.Position.{bears, last_position, last_from}
use Rattle.wast_names.specs.Space.{Space, empty, grown, grown_last, registered, last_counts, denoted, name_in, space_of}
use Rattle.wast_names.proofs.Walk.{reached_map}

pub or_none : {A : Type 0} (o : Option A) → o ≡ option_or o None
or_none None = refl
or_none (Some a) = refl

or_assoc : (a b c : Option ℕ) → option_or (option_or a b) c ≡ option_or a (option_or b c)
or_assoc None b c = refl
or_assoc (Some k) b c = refl

test_or : (b : Bool) (i : ℕ) (r : Option ℕ) → option_or (if b then Some i else None) r ≡ (if b then Some i else r)
test_or true i r = refl
test_or false i r = refl

module _ {N : Type 0} (same : N → N → Bool) where
  -- the first that bears a name, behind the items that were there
  pub first_so : (s : Space N) (xs : List (Option N)) (q : N) → (reached (grown same) s xs).look q ≡ option_or (s.look q) (position_from (bears same q) s.count xs)
  first_so s [] q = or_none (s.look q)
  first_so s (None ∷ xs) q = first_so (grown same s None) xs q
  first_so s (Some n ∷ xs) q =
      first_so (grown same s (Some n)) xs q
      ∙ or_assoc (s.look q) (if same n q then Some s.count else None) (position_from (bears same q) (s.count + 1) xs)
      ∙ ap (option_or (s.look q)) (test_or (same n q) s.count (position_from (bears same q) (s.count + 1) xs))

  -- the last that bears a name
  pub last_so : (s : Space N) (xs : List (Option N)) (q : N) → (reached (grown_last same) s xs).look q ≡ option_or (last_from same q s.count xs) (s.look q)
  last_so s [] q = refl
  last_so s (None ∷ xs) q = last_so (grown_last same s None) xs q ∙ sym (or_assoc (last_from same q (s.count + 1) xs) None (s.look q))
  last_so s (Some n ∷ xs) q =
      last_so (grown_last same s (Some n)) xs q
      ∙ ap (option_or (last_from same q (s.count + 1) xs)) (sym (test_or (same n q) s.count (s.look q)))
      ∙ sym (or_assoc (last_from same q (s.count + 1) xs) (if same n q then Some s.count else None) (s.look q))

  -- as many as there are
  pub counted_first : (s : Space N) (xs : List (Option N)) → (reached (grown same) s xs).count ≡ s.count + length xs
  counted_first s [] = omega (arith)
  counted_first s (None ∷ xs) = omega (arith, counted_first (grown same s None) xs)
  counted_first s (Some n ∷ xs) = omega (arith, counted_first (grown same s (Some n)) xs)

  pub counted_last : (s : Space N) (xs : List (Option N)) → (reached (grown_last same) s xs).count ≡ s.count + length xs
  counted_last s [] = omega (arith)
  counted_last s (None ∷ xs) = omega (arith, counted_last (grown_last same s None) xs)
  counted_last s (Some n ∷ xs) = omega (arith, counted_last (grown_last same s (Some n)) xs)

  -- of each kind, one or the other counts
  pub is_first : (kind : List ℕ) → last_counts kind ≡ false → registered same kind ≡ grown same
  is_first kind e = λ i s item. at s item i
    where
      at : (s : Space N) (item : Option N) → registered same kind s item ≡ grown same s item
      at s item = rw e refl

  pub is_last : (kind : List ℕ) → last_counts kind ≡ true → registered same kind ≡ grown_last same
  is_last kind e = λ i s item. at s item i
    where
      at : (s : Space N) (item : Option N) → registered same kind s item ≡ grown_last same s item
      at s item = rw e refl

  -- THE NUMBER of each name is its place
  pub numbers : (kind : List ℕ) (items : List (Option N)) (q : N) → (reached (registered same kind) empty items).look q ≡ denoted same kind q items
  numbers kind items q = of (last_counts kind) refl
    where
      of : (b : Bool) → last_counts kind ≡ b → (reached (registered same kind) empty items).look q ≡ denoted same kind q items
      of true e = ap (λ f. (reached f empty items).look q) (is_last kind e) ∙ last_so empty items q ∙ sym (or_none (last_position same q items)) ∙ rw e refl
      of false e = ap (λ f. (reached f empty items).look q) (is_first kind e) ∙ first_so empty items q ∙ rw e refl

  pub counts : (kind : List ℕ) (items : List (Option N)) → (reached (registered same kind) empty items).count ≡ length items
  counts kind items = of (last_counts kind) refl
    where
      of : (b : Bool) → last_counts kind ≡ b → (reached (registered same kind) empty items).count ≡ length items
      of true e = ap (λ f. (reached f empty items).count) (is_last kind e) ∙ (counted_last empty items ∙ omega (arith))
      of false e = ap (λ f. (reached f empty items).count) (is_first kind e) ∙ (counted_first empty items ∙ omega (arith))

  module _ {P : Type 0} where
    pub numbers_of : (kind : List ℕ) (items : List (Option (Named N P))) (q : N) → (space_of same kind items).look q ≡ denoted same kind q (map name_in items)
    numbers_of kind items q = ap (λ (s : Space N). s.look q) (sym (reached_map name_in (registered same kind) empty items)) ∙ numbers kind (map name_in items) q

    pub counts_of : (kind : List ℕ) (items : List (Option (Named N P))) → (space_of same kind items).count ≡ length items
    counts_of kind items =
        ap (λ (s : Space N). s.count) (sym (reached_map name_in (registered same kind) empty items)) ∙ counts kind (map name_in items) ∙ length-map items name_in
