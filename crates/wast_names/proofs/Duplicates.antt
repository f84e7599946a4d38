-- Lists of items of which no two bear one name, and the first duplicate of the others.
use Rattle.std.proofs.Common.{◌≡◌, ◌↔◌, ℕ, ◌+◌, List, [], ◌∷◌, ◌++◌, Option, Some, None, Bool, true, false, map, refl, sym, ◌∙◌, ap}
use Rattle.std.specs.Prelude.{if◌then◌else◌, is_none, is_some}
use Rattle.std.specs.List.{position_from}
use Rattle.std.specs.Option.{option_or}
use Rattle.wast_parser.specs.Tokens.{Name}
use Rattle.wast_parser.specs.Spelling.{same_name}
use Rattle.wast_parser.specs.Identifiers.{Named}
use Rattle.wast_names.specs.Walk.{first_unmet, walked, reached}
use Rattle.wast_names.specs.Position.{bears, position, last_position, last_from}
use Rattle.wast_names.specs.Demand.{Demand, Duplicate, is_met}
use Rattle.wast_names.specs.Space.{Space, empty, last_counts, name_in, distinct, is_free, fresh, fresh_item, after_item}
use Rattle.wast_names.specs.Laws.{Items, IsDistinct, IsFirstDuplicate}
use Rattle.wast_names.proofs.Walk.{IsFirstUnmet, all_met_at, all_met_by, unmet_at, unmet_by}
use Rattle.wast_names.proofs.Order.{alike_names}
use Rattle.wast_names.proofs.Positions.{numbers_of}

abbrev pub duplicate : List ℕ → Named Name ℕ → Demand Name ℕ
duplicate kind id = record { place = id.1; complaint = Duplicate kind; holds = false }

module _ (kind : List ℕ) (last : last_counts kind ≡ false) where
  fresh_is : fresh {N = Name} {P = ℕ} kind ≡ fresh_item kind
  fresh_is = λ i s item. at s item i
    where
      at : (s : Space Name) (item : Option (Named Name ℕ)) → fresh kind s item ≡ fresh_item kind s item
      at s item = rw last refl

  abbrev after : Space Name → Option (Named Name ℕ) → Space Name
  after = after_item same_name kind

  look_so : (before : Items) (n : Name) → (reached after empty before).look n ≡ position same_name n (map name_in before)
  look_so before n = numbers_of same_name kind before n ∙ rw last refl

  -- what is asked of one with an identifier, by where its name stands
  met_is : (s : Space Name) (id : Named Name ℕ) → first_unmet is_met (fresh kind s (Some id)) ≡ (if is_none (s.look id.0) then None else Some (is_free kind s id))
  met_is s id = ap (λ f. first_unmet is_met (f s (Some id))) fresh_is

  free_of : {D : Type 0} (d : D) (o : Option ℕ) → (if is_none o then None else Some d) ≡ None → o ≡ None
  free_of d None h = refl
  free_of d (Some k) h = absurd (cc)

  met_of : {D : Type 0} (d : D) (o : Option ℕ) → o ≡ None → (if is_none o then None else Some d) ≡ None
  met_of d o h = rw h refl

  pub accepted : (items : Items) → (first_unmet is_met (distinct same_name kind items) ≡ None) ↔ IsDistinct items
  accepted items = (to, from)
    where
      to : first_unmet is_met (distinct same_name kind items) ≡ None → IsDistinct items
      to h before id behind parts =
          let s = reached after empty before in
          sym (look_so before id.0)
          ∙ free_of (is_free kind s id) (s.look id.0)
          (sym (met_is s id) ∙ all_met_at after (fresh kind) is_met empty before (Some id) behind (ap (λ l. first_unmet is_met (walked (fresh kind) after empty l)) (sym parts) ∙ h))

      one : IsDistinct items → (before : Items) (item : Option (Named Name ℕ)) (behind : Items) → items ≡ before ++ item ∷ behind → first_unmet is_met (fresh kind (reached after empty before) item) ≡ None
      one h before None behind parts = ap (λ f. first_unmet is_met (f (reached after empty before) None)) fresh_is
      one h before (Some id) behind parts =
          let s = reached after empty before in
          met_is s id ∙ met_of (is_free kind s id) (s.look id.0) (look_so before id.0 ∙ h before id behind parts)

      from : IsDistinct items → first_unmet is_met (distinct same_name kind items) ≡ None
      from h = all_met_by after (fresh kind) is_met empty items (one h)

  taken_of : {D : Type 0} (d e : D) (o : Option ℕ) → (if is_none o then None else Some e) ≡ Some d → (is_some o ≡ true) × (is_none o ≡ false) × (e ≡ d)
  taken_of d e None h = absurd (cc)
  taken_of d e (Some k) h = (refl, refl, cc)

  stop_of : {D : Type 0} (d : D) (o : Option ℕ) → is_some o ≡ true → ((if is_none o then None else Some d) ≡ Some d) × (is_none o ≡ false)
  stop_of d None h = absurd (cc)
  stop_of d (Some k) h = (refl, refl)

  duplicate_is : (s : Space Name) (id : Named Name ℕ) → is_none (s.look id.0) ≡ false → is_free kind s id ≡ duplicate kind id
  duplicate_is s id h = λ i. record { place = id.1; complaint = Duplicate kind; holds = h i }

  pub refused : (items : Items) (d : Demand Name ℕ) → first_unmet is_met (distinct same_name kind items) ≡ Some d
      → (id : Named Name ℕ) × IsFirstDuplicate items id × (d ≡ record { place = id.1; complaint = Duplicate kind; holds = false })
  refused items d h = of u.element u.parts u.unmet
    where
      u : IsFirstUnmet is_met (fresh kind) after empty items d
      u = unmet_at after (fresh kind) is_met empty items d h

      of : (item : Option (Named Name ℕ)) → items ≡ u.before ++ item ∷ u.behind → first_unmet is_met (fresh kind (reached after empty u.before) item) ≡ Some d
          → (id : Named Name ℕ) × IsFirstDuplicate items id × (d ≡ duplicate kind id)
      of None parts unmet = let none : None ≡ Some d = sym (ap (λ f. first_unmet is_met (f (reached after empty u.before) None)) fresh_is) ∙ unmet in absurd (cc)
      of (Some id) parts unmet =
          let s = reached after empty u.before in
          let t = taken_of d (is_free kind s id) (s.look id.0) (sym (met_is s id) ∙ unmet) in (
            id,
            record {
              before = u.before;
              behind = u.behind;
              parts = parts;
              distinct = (accepted u.before).0 u.met;
              taken = ap is_some (sym (look_so u.before id.0)) ∙ t.0;
            },
            sym t.2 ∙ duplicate_is s id t.1,
          )

  pub refuses : (items : Items) (id : Named Name ℕ) → IsFirstDuplicate items id → first_unmet is_met (distinct same_name kind items) ≡ Some (duplicate kind id)
  refuses items id r =
      let s = reached after empty r.before in
      let t = stop_of (is_free kind s id) (s.look id.0) (ap is_some (look_so r.before id.0) ∙ r.taken) in
      ap (distinct_first) r.parts
      ∙ unmet_by after (fresh kind) is_met empty r.before (Some id) r.behind (duplicate kind id) ((accepted r.before).1 r.distinct) (met_is s id ∙ t.0 ∙ ap (λ e. Some e) (duplicate_is s id t.1))
    where
      distinct_first : Items → Option (Demand Name ℕ)
      distinct_first xs = first_unmet is_met (distinct same_name kind xs)

-- ONE PLACE
none_of : (k : ℕ) → Some k ≡ None → ⊥
none_of k h = absurd (cc)

module _ {K : Type 0} (t : K → Bool) where
  none_at : (i j : ℕ) (xs : List K) → position_from t i xs ≡ None → position_from t j xs ≡ None
  none_at i j [] = λ h. refl
  none_at i j (x ∷ xs) =
      elim (t x) as (λ b. (if b then Some i else position_from t (i + 1) xs) ≡ None → (if b then Some j else position_from t (j + 1) xs) ≡ None) [
        | true ↦ λ h. absurd (cc)
        | false ↦ none_at (i + 1) (j + 1) xs
      ]

  none_in : (x : K) (xs : List K) → position_from t 0 (x ∷ xs) ≡ None → (t x ≡ false) × (position_from t 0 xs ≡ None)
  none_in x xs h = of (t x) refl
    where
      of : (b : Bool) → t x ≡ b → (t x ≡ false) × (position_from t 0 xs ≡ None)
      of true e = absurd (none_of 0 (sym (ap (λ b. if b then Some 0 else position_from t 1 xs) e) ∙ h))
      of false e = (e, none_at 1 0 xs (sym (ap (λ b. if b then Some 0 else position_from t 1 xs) e) ∙ h))

tail_distinct : (x : Option (Named Name ℕ)) (items : Items) → IsDistinct (x ∷ items) → IsDistinct items
tail_distinct x items h before id behind parts = (none_in (bears same_name id.0) (name_in x) (map name_in before) (h (x ∷ before) id behind (ap (λ l. x ∷ l) parts))).1

-- none of those behind bears the name that the first has
others : (first : Named Name ℕ) (items : Items) → IsDistinct (Some first ∷ items) → (before : Items) (id : Named Name ℕ) (behind : Items) → items ≡ before ++ Some id ∷ behind → same_name first.0 id.0 ≡ false
others first items h before id behind parts =
    (none_in (bears same_name id.0) (Some first.0) (map name_in before) (h (Some first ∷ before) id behind (ap (λ l. Some first ∷ l) parts))).0

none_bears : (n : Name) (i : ℕ) (items : Items) → ((before : Items) (id : Named Name ℕ) (behind : Items) → items ≡ before ++ Some id ∷ behind → same_name id.0 n ≡ false) → last_from same_name n i (map name_in items) ≡ None
none_bears n i [] h = refl
none_bears n i (None ∷ items) h = ap (λ o. option_or o None) (none_bears n (i + 1) items (λ before id behind parts. h (None ∷ before) id behind (ap (λ l. None ∷ l) parts)))
none_bears n i (Some id ∷ items) h =
    ap (λ o. option_or o (if same_name id.0 n then Some i else None)) (none_bears n (i + 1) items (λ before other behind parts. h (Some id ∷ before) other behind (ap (λ l. Some id ∷ l) parts)))
    ∙ ap (λ b. if b then Some i else None) (h [] id items refl)

none_or : (o : Option ℕ) → option_or o None ≡ o
none_or None = refl
none_or (Some k) = refl

from_place : (n : Name) (i : ℕ) (items : Items) → IsDistinct items → last_from same_name n i (map name_in items) ≡ position_from (bears same_name n) i (map name_in items)
from_place n i [] h = refl
from_place n i (None ∷ items) h = none_or (last_from same_name n (i + 1) (map name_in items)) ∙ from_place n (i + 1) items (tail_distinct None items h)
from_place n i (Some first ∷ items) h = of (from_place n (i + 1) items (tail_distinct (Some first) items h)) (same_name first.0 n) refl
  where
    rest : List (Option Name)
    rest = map name_in items

    of : last_from same_name n (i + 1) rest ≡ position_from (bears same_name n) (i + 1) rest → (b : Bool) → same_name first.0 n ≡ b
        → option_or (last_from same_name n (i + 1) rest) (if same_name first.0 n then Some i else None) ≡ (if same_name first.0 n then Some i else position_from (bears same_name n) (i + 1) rest)
    of later false e =
        ap (λ b. option_or (last_from same_name n (i + 1) rest) (if b then Some i else None)) e ∙ none_or (last_from same_name n (i + 1) rest) ∙ later
        ∙ ap (λ b. if b then Some i else position_from (bears same_name n) (i + 1) rest) (sym e)
    of later true e =
        ap (λ b. option_or (last_from same_name n (i + 1) rest) (if b then Some i else None)) e
        ∙ ap (λ o. option_or o (Some i)) (none_bears n (i + 1) items apart)
        ∙ ap (λ b. if b then Some i else position_from (bears same_name n) (i + 1) rest) (sym e)
      where
        apart : (before : Items) (id : Named Name ℕ) (behind : Items) → items ≡ before ++ Some id ∷ behind → same_name id.0 n ≡ false
        apart before id behind parts = differs (same_name id.0 n) refl
          where
            differs : (b : Bool) → same_name id.0 n ≡ b → same_name id.0 n ≡ false
            differs false e' = e'
            differs true e' =
                let one : id.0 ≡ n = alike_names id.0 n e' in
                let yes : same_name first.0 id.0 ≡ true = ap (same_name first.0) one ∙ e in
                let no : same_name first.0 id.0 ≡ false = others first items h before id behind parts in
                absurd (cc)

pub one_place : (items : Items) (n : Name) → IsDistinct items → last_position same_name n (map name_in items) ≡ position same_name n (map name_in items)
one_place items n h = from_place n 0 items h
