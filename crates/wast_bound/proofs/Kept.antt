-- Demands that are kept, of lists that are joined, and as a judge answers of them.
use Rattle.std.proofs.Common.{◌≡◌, ℕ, Bool, true, false, ◌&&◌, List, [], ◌∷◌, ◌++◌, Option, Some, None, refl, sym, ◌∙◌, ap, append-nil}
use Rattle.std.specs.Prelude.{if◌then◌else◌, is_none, map, option_to_list, Result, Ok, Err}
use Rattle.std.specs.Result.{is_ok}
use Rattle.std.specs.List.{flat_map}
use Rattle.std.proofs.lemmas.List.Folds.{list_all-append}
use Rattle.wast_grammar.specs.Tokens.{Name}
use Rattle.wast_grammar.specs.Spelling.{same_name}
use Rattle.wast_parser.specs.Identifiers.{Named, Reference}
use Rattle.wast_names.specs.Walk.{first_unmet, walked}
use Rattle.wast_names.specs.Demand.{Demand}
use Rattle.wast_names.specs.Space as names
use Rattle.wast_names.specs.Space.{last_counts}
use Rattle.wast_signatures.specs.TypeTree.{Sig, TypeUse}
use Rattle.wast_meaning.specs.Demands.{agreement, agreements, says_demands, use_demands, mention_demands, part_demands}
use Rattle.wast_meaning.specs.Mentions.{Mention, Says, use_mentions}
use Rattle.wast_meaning.specs.Scope.{Scope}
use Rattle.wast_mentions.specs.Judging.{Judged}
use Rattle.wast_bound.specs.Bound.{is_kept, are_kept, Broken}

pub kept_then : (xs ys : List (Demand Name ℕ)) → are_kept (xs ++ ys) ≡ (are_kept xs && are_kept ys)
kept_then xs ys = list_all-append is_kept xs ys

and_true : (b : Bool) → (b && true) ≡ b
and_true true = refl
and_true false = refl

-- JUDGES
none_unmet : (ds : List (Demand Name ℕ)) → are_kept ds ≡ is_none (first_unmet is_kept ds)
none_unmet [] = refl
none_unmet (d ∷ ds) =
    elim (is_kept d) as (λ b. (b && are_kept ds) ≡ is_none (if b then first_unmet is_kept ds else Some d)) [
      | true ↦ none_unmet ds
      | false ↦ refl
    ]

is_nothing : {A : Type 0} (o : Option A) → true ≡ is_none o → o ≡ None
is_nothing None h = refl
is_nothing (Some a) h = absurd (cc)

no_thing : {A : Type 0} (o : Option A) → false ≡ is_none o → o ≡ None → ⊥
no_thing None h e = absurd (cc)
no_thing (Some a) h e = absurd (cc)

is_thing : {A : Type 0} (o : Option A) → (o ≡ None → ⊥) → false ≡ is_none o
is_thing None h = absurd (h refl)
is_thing (Some a) h = refl

module _ {M T E : Type 0} (asks : M → List (Demand Name ℕ)) where
  pub judged_one : (r : Result T E) (m : M) → is_ok r ≡ are_kept (asks m) → Judged asks is_kept Broken r (m ∷ [])
  judged_one (Ok x) m h = ap (first_unmet is_kept) (append-nil (asks m)) ∙ is_nothing (first_unmet is_kept (asks m)) (h ∙ none_unmet (asks m))
  judged_one (Err e) m h = λ none. no_thing (first_unmet is_kept (asks m)) (h ∙ none_unmet (asks m)) (ap (first_unmet is_kept) (sym (append-nil (asks m))) ∙ none)

  pub judged_all : (r : Result T E) (ms : List M) → Judged asks is_kept Broken r ms → is_ok r ≡ are_kept (flat_map asks ms)
  judged_all (Ok x) ms h = sym (none_unmet (flat_map asks ms) ∙ ap is_none h)
  judged_all (Err e) ms h = is_thing (first_unmet is_kept (flat_map asks ms)) h ∙ sym (none_unmet (flat_map asks ms))

-- what is said outside expressions, as a part
pub judged_says : {T E : Type 0} (r : Result T E) (m : Mention Name ℕ) (s : Scope Name ℕ) → Judged (mention_demands same_name s) is_kept Broken r (m ∷ [])
    → Judged (part_demands same_name s) is_kept Broken r (Says m ∷ [])
judged_says (Ok x) m s h = h
judged_says (Err f) m s h = h

-- WHAT IS KEPT WHATEVER THE NAMES
agreements_kept : (s : Scope Name ℕ) (u : TypeUse Name ℕ) → are_kept (agreements s u) ≡ true
agreements_kept s u = of u.index u.inline
  where
    of : (i : Option (Reference Name ℕ)) (sig : Option (Sig Name ℕ)) → are_kept (flat_map (λ j. map (agreement s j) (option_to_list sig)) (option_to_list i)) ≡ true
    of None sig = refl
    of (Some j) None = refl
    of (Some j) (Some sig) = refl

-- what a type use asks beside what it says itself
pub use_kept : (s : Scope Name ℕ) (u : TypeUse Name ℕ) → are_kept (flat_map (says_demands same_name s) (use_mentions u)) ≡ are_kept (use_demands same_name s u)
use_kept s u =
    let said = flat_map (says_demands same_name s) (use_mentions u) in
    sym (kept_then said (agreements s u) ∙ ap (λ b. are_kept said && b) (agreements_kept s u) ∙ and_true (are_kept said))

fresh_kept : (kind : List ℕ) (space : names.Space Name) (id : Option (Named Name ℕ)) → are_kept (names.fresh kind space id) ≡ true
fresh_kept kind space None = elim (last_counts kind) as (λ b. are_kept (if b then [] else []) ≡ true) [ true ↦ refl | false ↦ refl ]
fresh_kept kind space (Some id) = elim (last_counts kind) as (λ b. are_kept (if b then [] else names.is_free kind space id ∷ []) ≡ true) [ true ↦ refl | false ↦ refl ]

pub distinct_kept : (kind : List ℕ) (ids : List (Option (Named Name ℕ))) → are_kept (names.distinct same_name kind ids) ≡ true
distinct_kept kind ids = of names.empty ids
  where
    of : (space : names.Space Name) (ids : List (Option (Named Name ℕ))) → are_kept (walked (names.fresh kind) (names.after_item same_name kind) space ids) ≡ true
    of space [] = refl
    of space (id ∷ ids) =
        let after = names.after_item same_name kind space id in
        kept_then (names.fresh kind space id) (walked (names.fresh kind) (names.after_item same_name kind) after ids)
        ∙ ap (λ b. b && are_kept (walked (names.fresh kind) (names.after_item same_name kind) after ids)) (fresh_kept kind space id) ∙ of after ids
