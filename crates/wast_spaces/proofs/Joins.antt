-- How items join index spaces, one list of them after the other.
use Rattle.std.proofs.Common.{◌≡◌, ℕ, ◌+◌, ◌<◌, ◌≤◌, List, [], ◌∷◌, ◌++◌, map, Result, Ok, Err, refl, sym, subst, ◌∙◌, ap, append_assoc, append-nil, take-append-drop, take_all, take, drop, length, get_or}
use Rattle.std.specs.Prelude.{filter}
use Rattle.std.specs.List.{flat_map}
use Rattle.std.proofs.lemmas.List.{map-append, take_more}
use Rattle.std.proofs.lemmas.List.Elements.{filter-append}
use Rattle.std.proofs.lemmas.Grind.{flat_map-append}
use Rattle.wasm_encoder_base.specs.Table as table
use Rattle.wast_grammar.specs.Tokens.{Name}
use Rattle.wast_grammar.specs.Spelling.{same_name}
use Rattle.wast_parser.specs.Problem.{Problem}
use Rattle.wast_names.specs.Walk.{first_unmet}
use Rattle.wast_names.specs.Demand.{is_met, Refuses}
use Rattle.wast_names.specs.Space as names
use Rattle.wast_names.proofs.Walk.{reached_append, walked_append, unmet_after}
use Rattle.wast_names.proofs.Demands.{refuses_first, refuses_second}
use Rattle.wast_meaning.specs.Spaces.{Bound, same_space, space_word}
use Rattle.wast_meaning.specs.Demands.{item_demand, spaces_after}
use Rattle.wast_spaces.specs.declared.spaces.Spaces.{Spaces}
use Rattle.wast_spaces.specs.Views.{spaces_of, fields_of_types}
use Rattle.wast_spaces.specs.Joins.{Joined, Joins, joining, spaces_behind, type_fields}

asked_then : (spaces : table.Space → names.Space Name) (front bs : List (Bound Name ℕ)) → joining spaces (front ++ bs) ≡ joining spaces front ++ joining (spaces_behind spaces front) bs
asked_then spaces front bs = walked_append (spaces_after same_name) (item_demand same_name) spaces front bs

types_then : (front bs : List (Bound Name ℕ)) → type_fields (front ++ bs) ≡ type_fields front ++ type_fields bs
types_then front bs =
    ap (map (λ b. names.space_of same_name (space_word table.Fields) b.fields)) (filter-append (λ b. same_space table.Types b.space) front bs)
    ∙ map-append _ (filter (λ b. same_space table.Types b.space) front) (filter (λ b. same_space table.Types b.space) bs)

-- none
pub joined_none : (s : Spaces) → Joined s s []
joined_none s = record { met = refl; spaces = refl; fields = sym (append-nil (fields_of_types s)) }

-- one list, then another
pub joined_then : (old mid new : Spaces) (front bs : List (Bound Name ℕ)) → Joined old mid front → Joined mid new bs → Joined old new (front ++ bs)
joined_then old mid new front bs first second = record {
  met =
      ap (first_unmet is_met) (asked_then (spaces_of old) front bs) ∙ unmet_after is_met (joining (spaces_of old) front) (joining (spaces_behind (spaces_of old) front) bs) first.met
      ∙ ap (λ s. first_unmet is_met (joining s bs)) (sym first.spaces) ∙ second.met;
  spaces = second.spaces ∙ ap (λ s. spaces_behind s bs) first.spaces ∙ sym (reached_append (spaces_after same_name) (spaces_of old) front bs);
  fields =
      second.fields ∙ ap (λ l. l ++ type_fields bs) first.fields ∙ append_assoc (fields_of_types old) (type_fields front) (type_fields bs)
      ∙ ap (λ l. fields_of_types old ++ l) (sym (types_then front bs));
}

-- a refusal of the first, and one of the second
pub refused_first : (old : Spaces) (front bs : List (Bound Name ℕ)) (p : Problem) → Refuses (joining (spaces_of old) front) p → Refuses (joining (spaces_of old) (front ++ bs)) p
refused_first old front bs p h =
    subst (λ ds. Refuses ds p) (sym (asked_then (spaces_of old) front bs)) (refuses_first (joining (spaces_of old) front) (joining (spaces_behind (spaces_of old) front) bs) p h)

pub refused_then : (old mid : Spaces) (front bs : List (Bound Name ℕ)) (p : Problem) → Joined old mid front → Refuses (joining (spaces_of mid) bs) p → Refuses (joining (spaces_of old) (front ++ bs)) p
refused_then old mid front bs p first h =
    subst (λ ds. Refuses ds p) (sym (asked_then (spaces_of old) front bs))
    (refuses_second (joining (spaces_of old) front) (joining (spaces_behind (spaces_of old) front) bs) p first.met (subst (λ s. Refuses (joining s bs) p) first.spaces h))

pub joins_then : {T : Type 0} (r : Result T Problem) (old mid new : Spaces) (front bs : List (Bound Name ℕ)) → Joined old mid front → Joins r mid new bs → Joins r old new (front ++ bs)
joins_then (Ok x) old mid new front bs first second = joined_then old mid new front bs first second
joins_then (Err p) old mid new front bs first second = refused_then old mid front bs p first second

-- LISTS to which each element brings some
module _ {X A : Type 0} (view : X → List A) where
  pub one_more : (xs : List X) (i : ℕ) (x : X) → i < length xs → x ≡ get_or xs i x → flat_map view (take (i + 1) xs) ≡ flat_map view (take i xs) ++ view x
  one_more xs i x h e =
      ap (flat_map view) (take_more xs i x h ∙ ap (λ y. take i xs ++ y ∷ []) (sym e)) ∙ flat_map-append view (take i xs) (x ∷ [])
      ∙ ap (λ l. flat_map view (take i xs) ++ l) (append-nil (view x))

  pub all_of : (xs : List X) (i : ℕ) (x : X) → i < length xs → x ≡ get_or xs i x → flat_map view xs ≡ (flat_map view (take i xs) ++ view x) ++ flat_map view (drop (i + 1) xs)
  all_of xs i x h e =
      ap (flat_map view) (sym (take-append-drop (i + 1) xs)) ∙ flat_map-append view (take (i + 1) xs) (drop (i + 1) xs)
      ∙ ap (λ l. l ++ flat_map view (drop (i + 1) xs)) (one_more xs i x h e)

-- LOOPS over what brings items, element by element
module _ {X : Type 0} (view : X → List (Bound Name ℕ)) where
  pub joined_more : (old mid new : Spaces) (xs : List X) (i : ℕ) (x : X) → i < length xs → x ≡ get_or xs i x → Joined old mid (flat_map view (take i xs)) → Joined mid new (view x)
      → Joined old new (flat_map view (take (i + 1) xs))
  joined_more old mid new xs i x h e first more =
      subst (Joined old new) (sym (one_more view xs i x h e)) (joined_then old mid new (flat_map view (take i xs)) (view x) first more)

  pub joined_all : (old new : Spaces) (xs : List X) (i : ℕ) → length xs ≤ i → Joined old new (flat_map view (take i xs)) → Joined old new (flat_map view xs)
  joined_all old new xs i h j = subst (λ l. Joined old new (flat_map view l)) (take_all i xs h) j

  pub refused_at : (old mid : Spaces) (xs : List X) (i : ℕ) (x : X) (p : Problem) → i < length xs → x ≡ get_or xs i x → Joined old mid (flat_map view (take i xs))
      → Refuses (joining (spaces_of mid) (view x)) p → Refuses (joining (spaces_of old) (flat_map view xs)) p
  refused_at old mid xs i x p h e first refused =
      subst (λ l. Refuses (joining (spaces_of old) l) p) (sym (all_of view xs i x h e))
      (refused_first old (flat_map view (take i xs) ++ view x) (flat_map view (drop (i + 1) xs)) p (refused_then old mid (flat_map view (take i xs)) (view x) p first refused))
