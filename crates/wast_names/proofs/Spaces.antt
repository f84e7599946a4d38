-- Index spaces and places of names.
use Rattle.std.proofs.Common.{◌≡◌, ℕ, ◌+◌, List, [], ◌∷◌, Option, Some, None, Bool, true, false, refl, subst, ◌∙◌, ap}
use Rattle.std.specs.Prelude.{if◌then◌else◌, is_none}
use Rattle.std.specs.Option.{option_or}
use Rattle.wast_parser.specs.Tokens.{Name}
use Rattle.wast_parser.specs.Identifiers.{Named}
use Rattle.wast_names.specs.Walk.{first_unmet}
use Rattle.wast_names.specs.Demand.{is_met}
use Rattle.wast_names.specs.Space.{Space, bound, grown, grown_last, registered, last_counts, is_free}
use Rattle.wast_names.proofs.Positions.{or_none}

none_is : {A : Type 0} (o : Option A) → is_none o ≡ true → o ≡ None
none_is None h = refl
none_is (Some a) h = absurd (cc)

module _ {N : Type 0} (same : N → N → Bool) (alike : (a b : N) → same a b ≡ true → a ≡ b) where
  -- where no item bears the name, it makes no difference which of two would keep it
  pub free_alike : (s : Space N) (n : N) → is_none (s.look n) ≡ true → grown_last same s (Some n) ≡ grown same s (Some n)
  free_alike s n free = λ i. record { count = s.count + 1; look = λ q. at q i }
    where
      at_name : (q : N) → s.look q ≡ None → (b : Bool) → (if b then Some s.count else s.look q) ≡ option_or (s.look q) (if b then Some s.count else None)
      at_name q none true = rw none refl
      at_name q none false = or_none (s.look q)

      of : (q : N) (b : Bool) → same n q ≡ b → (if b then Some s.count else s.look q) ≡ option_or (s.look q) (if b then Some s.count else None)
      of q true e = at_name q (none_is (s.look q) (subst (λ m. is_none (s.look m) ≡ true) (alike n q e) free)) true
      of q false e = or_none (s.look q)

      at : (q : N) → (if same n q then Some s.count else s.look q) ≡ option_or (s.look q) (if same n q then Some s.count else None)
      at q = of q (same n q) refl

met_is : {D : Type 0} (d : D) (b : Bool) → (if b then None else Some d) ≡ None → b ≡ true
met_is d true h = refl
met_is d false h = absurd (cc)

-- ONE MORE ITEM, counted behind the naming
module _ (same : Name → Name → Bool) (alike : (a b : Name) → same a b ≡ true → a ≡ b) (kind : List ℕ) (old named new : Space Name) (counted : new ≡ grown same named None) where
  pub registered_last : (n : Name) → last_counts kind ≡ true → named ≡ bound same old n old.count → new ≡ registered same kind old (Some n)
  registered_last n last is = counted ∙ ap (λ s. grown same s None) is ∙ rw last refl

  pub registered_free : (id : Named Name ℕ) → last_counts kind ≡ false → first_unmet is_met (is_free kind old id ∷ []) ≡ None → named ≡ bound same old id.0 old.count
      → new ≡ registered same kind old (Some id.0)
  registered_free id last free is =
      counted ∙ ap (λ s. grown same s None) is ∙ free_alike same alike old id.0 (met_is (is_free kind old id) (is_none (old.look id.0)) free) ∙ rw last refl

  pub registered_none : named ≡ old → new ≡ registered same kind old None
  registered_none is = counted ∙ ap (λ s. grown same s None) is ∙ same_none (last_counts kind)
    where
      same_none : (b : Bool) → grown same old None ≡ (if b then grown_last same old None else grown same old None)
      same_none true = refl
      same_none false = refl
