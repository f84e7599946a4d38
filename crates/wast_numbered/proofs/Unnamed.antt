-- Parameters without names.
use Rattle.std.proofs.Common.{◌≡◌, ℕ, zero, suc, List, [], ◌∷◌, length, map, replicate, Option, Some, None, refl, sym, subst, ap}
use Rattle.std.specs.Prelude.{option_map, option_and_then, unwrap_or, slice_get}
use Rattle.wast_grammar.specs.Tokens.{Name}
use Rattle.wast_parser.specs.Identifiers.{Named}
use Rattle.wast_signatures.specs.TypeTree.{Local}
use Rattle.wast_meaning.specs.Implied.{no_sig}
use Rattle.wast_numbered.specs.Place.{nameless, sig_with}

abbrev Ids : Type 0
Ids = List (Option (Named Name ℕ))

pub nameless_so : (n : ℕ) → ◌≡◌ {A = Ids} (replicate n None) (map (λ p. None) (replicate n nameless))
nameless_so zero = refl
nameless_so (suc n) = ap (λ (l : Ids). None ∷ l) (nameless_so n)

pub nameless_params : (ps : List (Local Name ℕ)) → ◌≡◌ {A = Ids} (map (λ p. None) (replicate (length ps) nameless)) (map (λ p. None) ps)
nameless_params [] = refl
nameless_params (p ∷ ps) = ap (λ (l : Ids). None ∷ l) (nameless_params ps)

-- those of the type with a number
pub counted : (params : List ℕ) (k : ℕ) → ◌≡◌ {A = Ids} (replicate (unwrap_or (slice_get params k) 0) None) (map (λ p. None) (unwrap_or (option_map sig_with (slice_get params k)) no_sig).params)
counted params k = of (slice_get params k)
  where
    of : (o : Option ℕ) → ◌≡◌ {A = Ids} (replicate (unwrap_or o 0) None) (map (λ p. None) (unwrap_or (option_map sig_with o) no_sig).params)
    of None = refl
    of (Some n) = nameless_so n

pub counted_at : (params : List ℕ) (o : Option ℕ) (k n : ℕ) → o ≡ Some k → n ≡ unwrap_or (slice_get params k) 0
    → ◌≡◌ {A = Ids} (replicate n None) (map (λ p. None) (unwrap_or (option_and_then (λ t. option_map sig_with (slice_get params t)) o) no_sig).params)
counted_at params o k n at h =
    let P : Option ℕ → Type 0 = λ q. ◌≡◌ {A = Ids} (replicate n None) (map (λ p. None) (unwrap_or (option_and_then (λ t. option_map sig_with (slice_get params t)) q) no_sig).params) in
    subst P (sym at) (subst (λ m. ◌≡◌ {A = Ids} (replicate m None) (map (λ p. None) (unwrap_or (option_map sig_with (slice_get params k)) no_sig).params)) (sym h) (counted params k))
