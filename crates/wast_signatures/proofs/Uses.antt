-- The signature of a type use is read where one begins.
use Rattle.std.proofs.Common.{◌≡◌, ℕ, suc, zero, Bool, true, false, List, [], ◌∷◌, length, Option, Some, None, ◌⊎◌, inl, inr, refl, codes}
use Rattle.wast_value_types.specs.Tokens.{SignificantToken}
use Rattle.wast_value_types.specs.Spelling.{◌>>=◌}
use Rattle.wast_value_types.specs.Look.{Test, this_group, look, fits, at, ask, faults}
use Rattle.wast_value_types.specs.Grammar.{Reader, seq_reads, map_reads, many_reads, maybe_reads}
use Rattle.wast_signatures.specs.TypeTree.{Sig}
use Rattle.wast_value_types.specs.ValueTree.{ValType}
use Rattle.wast_signatures.specs.TypeSyntax.{sig_starts, as_inline}

-- what repeating reads where none begins, where none can be told, and where one does
module _ {N P A : Type 0} (starts : List Test) (r : Reader N P A) (ts : List (SignificantToken N P)) where
  none_here : (n : ℕ) → ask starts ts ≡ Some false → many_reads starts r n ts ≡ Some ([], ts)
  none_here zero e = rw e refl
  none_here (suc n) e = rw e refl

  fault_here : (n : ℕ) → ask starts ts ≡ None → many_reads starts r n ts ≡ None
  fault_here zero e = rw e refl
  fault_here (suc n) e = rw e refl

  abbrev put : A → List A × List (SignificantToken N P) → Option (List A × List (SignificantToken N P))
  put a rest = Some (a ∷ rest.0, rest.1)

  abbrev go : ℕ → A × List (SignificantToken N P) → Option (List A × List (SignificantToken N P))
  go n a = many_reads starts r n a.1 >>= put a.0

  -- no list, or one of some
  abbrev Some_or_none : Option (List A × List (SignificantToken N P)) → Type 0
  Some_or_none o = (o ≡ None) ⊎ ((a : A) × (xs : List A) × (us : List (SignificantToken N P)) × (o ≡ Some (a ∷ xs, us)))

  with_one : (a : A) (o : Option (List A × List (SignificantToken N P))) → Some_or_none (o >>= put a)
  with_one a None = inl refl
  with_one a (Some x) = inr (a, x.0, x.1, refl)

  after_one : (n : ℕ) (o : Option (A × List (SignificantToken N P))) → Some_or_none (o >>= go n)
  after_one n None = inl refl
  after_one n (Some a) = with_one a.0 (many_reads starts r n a.1)

  some_here : (n : ℕ) → ask starts ts ≡ Some true → Some_or_none (many_reads starts r n ts)
  some_here zero e = inl (rw e refl)
  some_here (suc n) e = elim (after_one n (r ts)) [ inl y ↦ inl (rw e y) | inr z ↦ inr (z.0, z.1, z.2, rw e z.3) ]

abbrev params : List Test
params = this_group (codes "param") ∷ []

abbrev results : List Test
results = this_group (codes "result") ∷ []

module _ {N P A : Type 0} (f : List (List A) × List (List (ValType N P)) → Sig N P) (r : Reader N P (List A)) (q : Reader N P (List (ValType N P))) where
  abbrev Groups : Type 0
  Groups = List (List A) × List (List (ValType N P))

  abbrev first : Reader N P (List (List A))
  first ts = many_reads params r (length ts) ts

  abbrev later : Reader N P (List (List (ValType N P)))
  later ts = many_reads results q (length ts) ts

  abbrev groups : Reader N P Groups
  groups = seq_reads first (λ _. later)

  abbrev whole : Reader N P (Option (Sig N P))
  whole = map_reads (as_inline f) groups

  abbrev looked : Reader N P (Option (Sig N P))
  looked = maybe_reads sig_starts (map_reads f groups)

  -- behind parameters
  abbrev both : List (List A) → List (List (ValType N P)) × List (SignificantToken N P) → Option (Groups × List (SignificantToken N P))
  both xs b = Some ((xs, b.0), b.1)

  abbrev in_use : Groups × List (SignificantToken N P) → Option (Option (Sig N P) × List (SignificantToken N P))
  in_use x = Some (as_inline f x.0, x.1)

  abbrev in_sig : Groups × List (SignificantToken N P) → Option (Sig N P × List (SignificantToken N P))
  in_sig x = Some (f x.0, x.1)

  abbrev there : Sig N P × List (SignificantToken N P) → Option (Option (Sig N P) × List (SignificantToken N P))
  there x = Some (Some x.0, x.1)

  behind : (a : List A) (xs : List (List A)) (o : Option (List (List (ValType N P)) × List (SignificantToken N P))) → ((o >>= both (a ∷ xs)) >>= in_use) ≡ (((o >>= both (a ∷ xs)) >>= in_sig) >>= there)
  behind a xs None = refl
  behind a xs (Some b) = refl

  module _ (ts : List (SignificantToken N P)) where
    with_params : (sig_begins : ask sig_starts ts ≡ Some true) → ask params ts ≡ Some true → whole ts ≡ looked ts
    with_params s e = elim (some_here params r ts (length ts) e) [
      | inl y ↦ rw (s, y) refl
      | inr z ↦ rw (s, z.3) (behind z.0 z.1 (later z.2))
    ]

    with_results : (sig_begins : ask sig_starts ts ≡ Some true) → ask params ts ≡ Some false → ask results ts ≡ Some true → whole ts ≡ looked ts
    with_results s n e = elim (some_here results q ts (length ts) e) [
      | inl y ↦ rw (s, none_here params r ts (length ts) n, y) refl
      | inr z ↦ rw (s, none_here params r ts (length ts) n, z.3) refl
    ]

    with_none : ask sig_starts ts ≡ Some false → ask params ts ≡ Some false → ask results ts ≡ Some false → whole ts ≡ looked ts
    with_none s n e = rw (s, none_here params r ts (length ts) n, none_here results q ts (length ts) e) refl

    asks_so : (f a b : Bool) → at (faults params) ts ≡ f → fits (this_group (codes "param")) (look ts) ≡ a → fits (this_group (codes "result")) (look ts) ≡ b → whole ts ≡ looked ts
    asks_so true a b e g h = rw (fault_here params r ts (length ts) (rw e refl), e) refl
    asks_so false true b e g h = with_params (rw (e, g) refl) (rw (e, g) refl)
    asks_so false false true e g h = with_results (rw (e, g, h) refl) (rw (e, g) refl) (rw (e, h) refl)
    asks_so false false false e g h = with_none (rw (e, g, h) refl) (rw (e, g) refl) (rw (e, h) refl)

    pub inline_looked : whole ts ≡ looked ts
    inline_looked = asks_so _ _ _ refl refl refl
