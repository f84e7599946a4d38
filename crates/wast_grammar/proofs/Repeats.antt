-- Loops that read a list: a repeat takes as many turns as it needs, and so many where their number is given.
use Rattle.std.proofs.Common.{◌≡◌, ℕ, zero, suc, ◌≤◌, true, false, List, [], ◌∷◌, ◌++◌, length, Option, Some, None, refl, sym, ◌∙◌, ap, arith, append_assoc, cond}
use Rattle.wast_grammar.specs.Tokens.{SignificantToken}
use Rattle.wast_grammar.specs.Spelling.{◌>>=◌}
use Rattle.wast_grammar.specs.Look.{Test, ask}
use Rattle.wast_grammar.specs.Grammar.{Reader, many_reads, times_reads}
use Rattle.wast_grammar.specs.Lawful.{Shrinks}

-- what is read, behind what was read before
abbrev pub with_front : {A R : Type 0} → List A → Option (List A × R) → Option (List A × R)
with_front front o = o >>= λ x. Some (front ++ x.0, x.1)

-- the same, behind one item more
shift : {A R : Type 0} (front : List A) (y : A) (o : Option (List A × R)) → with_front (front ++ y ∷ []) o ≡ with_front front (o >>= λ rest. Some (y ∷ rest.0, rest.1))
shift front y None = refl
shift front y (Some m) = ap (λ z. Some (z, m.1)) (append_assoc front (y ∷ []) m.0)

-- AS OFTEN AS IT BEGINS
module _ {N P A : Type 0} (starts : List Test) (r : Reader N P A) (progress : Shrinks r) where
  abbrev pub goes_on : ℕ → A × List (SignificantToken N P) → Option (List A × List (SignificantToken N P))
  goes_on n a = many_reads starts r n a.1 >>= λ rest. Some (a.0 ∷ rest.0, rest.1)

  no_item : (m : ℕ) (ts : List (SignificantToken N P)) → length ts ≤ 0 → (o : Option (A × List (SignificantToken N P))) → r ts ≡ o → None ≡ (o >>= goes_on m)
  no_item m ts p None e = refl
  no_item m ts p (Some x) e = let l = progress ts x e in let no : ⊥ = omega arith in absurd no

  pub many_fuel : (n m : ℕ) (ts : List (SignificantToken N P)) → length ts ≤ n → length ts ≤ m → many_reads starts r n ts ≡ many_reads starts r m ts
  many_fuel zero zero ts p q = refl
  many_fuel zero (suc m) ts p q = ap (λ v. ask starts ts >>= λ b. cond b v (Some ([], ts))) (no_item m ts p (r ts) refl)
  many_fuel (suc n) zero ts p q = ap (λ v. ask starts ts >>= λ b. cond b v (Some ([], ts))) (sym (no_item n ts q (r ts) refl))
  many_fuel (suc n) (suc m) ts p q =
      let item : (o : Option (A × List (SignificantToken N P))) → r ts ≡ o → (o >>= goes_on n) ≡ (o >>= goes_on m) = elim [
        | None ↦ λ e. refl
        | Some x ↦ λ e. (let l = progress ts x e in ap (λ v. v >>= λ rest. Some (x.0 ∷ rest.0, rest.1)) (many_fuel n m x.1 (omega arith) (omega arith)))
      ] in
      ap (λ v. ask starts ts >>= λ b. cond b v (Some ([], ts))) (item (r ts) refl)

  -- one more item
  pub many_next : (front : List A) (ts : List (SignificantToken N P)) (x : A × List (SignificantToken N P)) → ask starts ts ≡ Some true → r ts ≡ Some x →
      with_front (front ++ x.0 ∷ []) (many_reads starts r (length x.1) x.1) ≡ with_front front (many_reads starts r (length ts) ts)
  many_next front [] x b e = let l = progress [] x e in let no : ⊥ = omega arith in absurd no
  many_next front (t ∷ us) x b e =
      let l = progress (t ∷ us) x e in
      shift front x.0 (many_reads starts r (length x.1) x.1)
      ∙ ap (λ o. with_front front (o >>= λ rest. Some (x.0 ∷ rest.0, rest.1))) (many_fuel (length x.1) (length us) x.1 (omega arith) (omega arith))
      ∙ ap (λ o. with_front front (o >>= goes_on (length us))) (sym e)
      ∙ ap (λ v. with_front front (v >>= λ b. cond b (r (t ∷ us) >>= goes_on (length us)) (Some ([], t ∷ us)))) (sym b)

  -- no more
  pub many_done : (front : List A) (ts : List (SignificantToken N P)) → ask starts ts ≡ Some false → with_front front (many_reads starts r (length ts) ts) ≡ Some (front ++ [], ts)
  many_done front [] b = rw b refl
  many_done front (t ∷ ts) b = rw b refl

  -- none where one begins and is not read, or where a look meets a fault
  pub many_refused : (front : List A) (ts : List (SignificantToken N P)) → ask starts ts ≡ Some true → r ts ≡ None → with_front front (many_reads starts r (length ts) ts) ≡ None
  many_refused front [] b e = rw b refl
  many_refused front (t ∷ ts) b e = rw (b, e) refl

  pub many_faulty : (front : List A) (ts : List (SignificantToken N P)) → ask starts ts ≡ None → with_front front (many_reads starts r (length ts) ts) ≡ None
  many_faulty front [] b = rw b refl
  many_faulty front (t ∷ ts) b = rw b refl

-- SO OFTEN
module _ {N P A : Type 0} (r : Reader N P A) where
  -- one more item
  pub times_next : (front : List A) (n : ℕ) (ts : List (SignificantToken N P)) (x : A × List (SignificantToken N P)) → r ts ≡ Some x →
      with_front (front ++ x.0 ∷ []) (times_reads n r x.1) ≡ with_front front (times_reads (suc n) r ts)
  times_next front n ts x e = shift front x.0 (times_reads n r x.1) ∙ ap (λ o. with_front front (o >>= λ a. times_reads n r a.1 >>= λ rest. Some (a.0 ∷ rest.0, rest.1))) (sym e)
