-- What fields are resolved to keeps to all demands where they do, and is resolved to itself.
use Rattle.std.proofs.Common.{◌≡◌, ℕ, Bool, true, List, None, ◌∙◌, ap}
use Rattle.wast_names.specs.Walk.{first_unmet}
use Rattle.wast_names.specs.Demand.{is_met}
use Rattle.wast_field_syntax.specs.FieldTree.{Field}
use Rattle.wast_meaning.specs.Written.{written_out}
use Rattle.wast_meaning.specs.Demands.{demands, all_demands}
use Rattle.wast_meaning.specs.Numbered.{expanded, resolved}
use Rattle.wast_meaning.specs.Settled.{are_settled}
use Rattle.wast_meaning.proofs.Resolved.{none_implied, resolved_stays}
use Rattle.wast_resolve_laws.proofs.Settles.{numbered_settles}
use Rattle.wast_resolve_laws.proofs.DemandsKept.{demands_kept}
use Rattle.wast_resolve_laws.proofs.Expanded.{expanded_typed}
use Rattle.wast_resolve_laws.proofs.NumberedKept.{numbered_met}
use Rattle.wast_resolve_laws.proofs.Plain.{written_plain, expanded_plain, numbered_plain, plain_stays}

module _ {N P : Type 0} (eq : N → N → Bool) (self : (n : N) → eq n n ≡ true) (sound : (m n : N) → eq m n ≡ true → m ≡ n) (naming : ℕ → N) (fs : List (Field N P)) where
  abbrev typed_fields : List (Field N P)
  typed_fields = expanded eq (written_out naming fs)

  -- nothing stands inline
  resolved_plain : (other : ℕ → N) → written_out other (resolved eq naming fs) ≡ resolved eq naming fs
  resolved_plain other = plain_stays other (resolved eq naming fs) (numbered_plain eq typed_fields (expanded_plain eq (written_out naming fs) (written_plain naming 0 fs)))

  module _ (met : first_unmet is_met (all_demands eq naming fs) ≡ None) where
    typed_met : first_unmet is_met (demands eq typed_fields) ≡ None
    typed_met = demands_kept eq self sound (written_out naming fs) ∙ met

    pub resolved_settled : are_settled (resolved eq naming fs) ≡ true
    resolved_settled = numbered_settles eq typed_fields typed_met (expanded_typed eq self (written_out naming fs))

    -- resolved once more it stays
    pub resolved_again : (other : ℕ → N) → resolved eq other (resolved eq naming fs) ≡ resolved eq naming fs
    resolved_again other = resolved_stays eq other (resolved eq naming fs) (resolved_plain other) resolved_settled

    -- and keeps to all demands
    pub resolved_met : (other : ℕ → N) → first_unmet is_met (all_demands eq other (resolved eq naming fs)) ≡ None
    resolved_met other =
        ap (λ gs. first_unmet is_met (demands eq gs)) (resolved_plain other)
        ∙ numbered_met eq typed_fields typed_met (expanded_typed eq self (written_out naming fs)) (none_implied eq (resolved eq naming fs) resolved_settled)
