-- Members of groups, the first before the others.
use Rattle.std.proofs.Common.{◌≡◌, List, ◌∷◌, map, Some, sym, ◌∙◌, ap}
use Rattle.std.proofs.lemmas.Simd.{map-map}
use Rattle.wast_signatures.specs.Tokens.{SignificantToken}
use Rattle.wast_signatures.specs.Grammar.{Reader, map_reads, seq_reads}

-- the trees of all are that of the first, and those of the others
pub all_trees : {M I T : Type 0} (tree : I → T) (item : M → I) (first : I) (more : List M) (all : List I) → all ≡ first ∷ map item more → tree first ∷ map (λ m. tree (item m)) more ≡ map tree all
all_trees tree item first more all e = ap (λ ts. tree first ∷ ts) (sym (map-map tree item more)) ∙ sym (ap (map tree) e)

module _ {N P A C : Type 0} where
  -- what is read, seen as a value
  pub read_as : (f : A → C) (r : Reader N P A) (ts us : List (SignificantToken N P)) (a : A) (c : C) → r ts ≡ Some (a, us) → f a ≡ c → map_reads f r ts ≡ Some (c, us)
  read_as f r ts us a c e g = rw e (ap (λ v. Some (v, us)) g)

  -- the same of two, one after the other
  pub both_as : {B : Type 0} (f : A × B → C) (r : Reader N P A) (q : Reader N P B) (ts us vs : List (SignificantToken N P)) (a : A) (b : B) (c : C) → r ts ≡ Some (a, us) → q us ≡ Some (b, vs) → f (a, b) ≡ c → map_reads f (seq_reads r (λ _. q)) ts ≡ Some (c, vs)
  both_as f r q ts us vs a b c d e g = rw (d, e) (ap (λ v. Some (v, vs)) g)
