-- Instructions that are said alike.
use Rattle.std.proofs.Common.{◌≡◌, ◌⊎◌, inl, inr, sym, subst}

module _ {X : Type 0} (P : X → Type 0) where
  -- what holds of this one, and what holds where it is one of several
  pub at_one : (x a : X) → P a → x ≡ a → P x
  at_one x a h e = subst P (sym e) h

  pub at_either : {Q : Type 0} (x a : X) → P a → (Q → P x) → (x ≡ a) ⊎ Q → P x
  at_either x a h others (inl e) = at_one x a h e
  at_either x a h others (inr q) = others q

-- what holds of what is borrowed twice from a box holds of what is in it
pub of_both : {X : Type 0} (Q : X → X → Type 0) {a b x : X} → a ≡ x → b ≡ x → Q a b → Q x x
of_both {X} Q e f h = subst (λ (p : X × X). Q p.0 p.1) (λ k. (e k, f k)) h
