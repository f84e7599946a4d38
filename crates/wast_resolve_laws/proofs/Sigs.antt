-- Signatures: those of types that are written, and those that uses imply, each with its place.
use Rattle.std.proofs.Common.{◌≡◌, Bool, true, false, List, [], ◌∷◌, map, Option, Some, refl, ◌∙◌, ap}
use Rattle.std.specs.Prelude.{◌&&◌}
use Rattle.std.specs.List.{list_any, list_all}
use Rattle.std.specs.Cmp.Derive.{both_true}
use Rattle.wast_signatures.specs.TypeTree.{Sig, TypeItem}
use Rattle.wast_meaning.specs.Implied.{same_sig, same_written, func_sig, unnamed, implied_by}
use Rattle.wast_meaning.proofs.Settled.{left, right}

module _ {N P : Type 0} where
  abbrev pub sig_of_type : TypeItem N P × Bool → Option (Sig N P)
  sig_of_type t = func_sig t.0.definition.comp.inner

  abbrev pub implied_sig : P × Sig N P → Option (Sig N P)
  implied_sig u = Some u.1

  abbrev pub placed : P → Sig N P → P × Sig N P
  placed p t = (p, t)

  -- a test of signatures, wherever they stand
  module _ (q : Sig N P → Bool) where
    abbrev pub at_place : P × Sig N P → Bool
    at_place u = q u.1

    pub unplaced : (p : P) (ts : List (Sig N P)) → list_all at_place (map (placed p) ts) ≡ list_all q ts
    unplaced p [] = refl
    unplaced p (t ∷ ts) = ap (λ b. q t && b) (unplaced p ts)

    -- those that are implied pass it where those of uses do, names of parameters aside
    module _ (eq : N → N → Bool) (same : (t : Sig N P) → q (unnamed t) ≡ q t) where
      pub implied_pass : (have : List (Sig N P)) (us : List (P × Sig N P)) → list_all at_place us ≡ true → list_all at_place (implied_by eq have us) ≡ true
      implied_pass have [] e = refl
      implied_pass have (u ∷ us) e =
          by_case (list_any (same_sig (same_written eq) u.1) have) (implied_pass have us (right (at_place u) (list_all at_place us) e)) (implied_pass (u.1 ∷ have) us (right (at_place u) (list_all at_place us) e))
        where
          by_case : (b : Bool) → list_all at_place (implied_by eq have us) ≡ true → list_all at_place (implied_by eq (u.1 ∷ have) us) ≡ true →
              list_all at_place (elim b [ true ↦ implied_by eq have us | false ↦ (u.0, unnamed u.1) ∷ implied_by eq (u.1 ∷ have) us ]) ≡ true
          by_case true shorter more = shorter
          by_case false shorter more = both_true (same u.1 ∙ left (at_place u) (list_all at_place us) e) more
