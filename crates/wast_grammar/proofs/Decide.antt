-- Tokens that are alike, with names and places that match, have one answer.
use Rattle.std.proofs.Common.{◌≡◌, ◌↔◌, ℕ, ◌<◌, Bool, true, false, List, [], ◌∷◌, map, Some, None, refl, sym, ◌∙◌, ap, subst, arith, nat_eq, tests}
use Rattle.std.specs.Cmp.Lexicographic.{bytes_decides}
use Rattle.std.proofs.lemmas.Bool.{and_parts, and_from}
use std.Equiv.{Iso, iso_to_equiv}
use Rattle.wast_grammar.specs.Tokens.{Name, SignificantToken, Open, Close, Id, Word, Mark, Integer, Float, Text, Reserved, Broken}
use Rattle.wast_grammar.specs.Spelling.{same_name}
use Rattle.wast_grammar.specs.Alike.{move, Keeps, Fits, Matched, Carries, Same, Later, Rising, AlikeToken, Alike, name_pair, names, place_of, both_places, places}
use Rattle.wast_grammar.proofs.Extend.{extend, injective}
use Rattle.wast_grammar.proofs.Free.{Answer, free, free_over}

-- TOKENS whose names and places are carried are these, renamed and moved
module _ {N M P Q : Type 0} (f : N → M) (g : P → Q) where
  carried_one : (t : SignificantToken N P) (u : SignificantToken M Q) (ns : List (N × M)) (ps : List (P × Q)) → AlikeToken t u → Carries f (name_pair t u ns) → Carries g (both_places (place_of t) (place_of u) ps) → (move f g t ≡ u) × Carries f ns × Carries g ps
  carried_one (Open p) (Open q) ns ps a c d = (ap Open d.0, c, d.1)
  carried_one (Close p) (Close q) ns ps a c d = (ap Close d.0, c, d.1)
  carried_one (Id (Some n) p) (Id (Some m) q) ns ps a c d = (rw (c.0, d.0) refl, c.1, d.1)
  carried_one (Id None p) (Id None q) ns ps a c d = (rw d.0 refl, c, d.1)
  carried_one (Word v p) (Word w q) ns ps a c d = (rw (a, d.0) refl, c, d.1)
  carried_one (Mark v p) (Mark w q) ns ps a c d = (rw (a, d.0) refl, c, d.1)
  carried_one (Integer l v p) (Integer k w q) ns ps a c d = (rw (a.0, a.1, d.0) refl, c, d.1)
  carried_one (Float v p) (Float w q) ns ps a c d = (rw (a, d.0) refl, c, d.1)
  carried_one (Text v p) (Text w q) ns ps a c d = (rw (a, d.0) refl, c, d.1)
  carried_one (Reserved v p) (Reserved w q) ns ps a c d = (rw (a, d.0) refl, c, d.1)
  carried_one Broken Broken ns ps a c d = (refl, c, d)
  carried_one t u ns ps a c d = absurd a

  pub carried : (ts : List (SignificantToken N P)) (us : List (SignificantToken M Q)) → Alike ts us → Carries f (names ts us) → Carries g (places ts us) → map (move f g) ts ≡ us
  carried [] [] a c d = refl
  carried (t ∷ ts) (u ∷ us) a c d = let k = carried_one t u (names ts us) (places ts us) a.0 c d in rw (k.0, carried ts us a.1 k.1 k.2) refl
  carried [] (u ∷ us) a c d = absurd a
  carried (t ∷ ts) [] a c d = absurd a

-- PAIRS that match: places that rise, names that are the same
fits_later : (p : ℕ × ℕ) (ps : List (ℕ × ℕ)) → Later p ps → Fits p ps
fits_later p [] a = tt
fits_later p (q ∷ qs) a =
    ((λ e. absurd (let m : q.0 < q.0 = subst (λ z. z < q.0) e a.0 in omega arith), λ e. absurd (let m : q.1 < q.1 = subst (λ z. z < q.1) e a.1 in omega arith)), fits_later p qs a.2)

pub rising_match : (ps : List (ℕ × ℕ)) → Rising ps → Matched ps
rising_match [] a = tt
rising_match (p ∷ ps) a = (fits_later p ps a.0, rising_match ps a.1)

fits_same : {N : Type 0} (p q : N) (e : p ≡ q) (ps : List (N × N)) → Same ps → Fits (p, q) ps
fits_same p q e [] s = tt
fits_same p q e (r ∷ ps) s = ((λ f. sym e ∙ f ∙ s.0, λ f. e ∙ f ∙ sym s.0), fits_same p q e ps s.1)

pub same_match : {N : Type 0} (ps : List (N × N)) → Same ps → Matched ps
same_match [] s = tt
same_match (p ∷ ps) s = (fits_same p.0 p.1 s.0 ps s.1, same_match ps s.1)

numbers : (a b : ℕ) → (nat_eq a b ≡ true) ↔ (a ≡ b)
numbers a b = grind (arith, tests)

-- two names are the same where their bytes and generations are
pub names_decide : (a b : Name) → (same_name a b ≡ true) ↔ (a ≡ b)
names_decide a b = (
  λ t. let k = and_parts _ _ t in rw ((bytes_decides a.0 b.0).0 k.0, (numbers a.1 b.1).0 k.1) refl,
  λ e. and_from _ _ ((bytes_decides a.0 b.0).1 (ap (λ n. n.0) e)) ((numbers a.1 b.1).1 (ap (λ n. n.1) e)),
)

-- a test that decides is kept by what is one to one
kept : {N : Type 0} (same : N → N → Bool) (decides : (a b : N) → (same a b ≡ true) ↔ (a ≡ b)) (i : Iso N N) → Keeps same same i.fun
kept same decides i a b = agree _ _ (λ t. (decides a b).1 (injective same decides i a b ((decides _ _).0 t))) (λ t. (decides _ _).1 (ap i.fun ((decides a b).0 t)))
  where
    agree : (p q : Bool) → (p ≡ true → q ≡ true) → (q ≡ true → p ≡ true) → p ≡ q
    agree true q f g = sym (f refl)
    agree false true f g = g refl
    agree false false f g = refl

-- ONE ANSWER
module _ {ℓ} {R : Type ℓ} (answer : Answer R) where
  pub decided : {N : Type 0} (same : N → N → Bool) (decides : (a b : N) → (same a b ≡ true) ↔ (a ≡ b)) (ts us : List (SignificantToken N ℕ)) → Alike ts us → Matched (names ts us) → Matched (places ts us) → answer N ℕ same us ≡ answer N ℕ same ts
  decided same decides ts us a m r =
      let e = extend same decides (names ts us) m in
      let d = extend nat_eq numbers (places ts us) r in
      ap (λ v. answer _ ℕ same v) (sym (carried e.0.fun d.0.fun ts us a e.1 d.1)) ∙ free answer (iso_to_equiv e.0) (iso_to_equiv d.0) same same (kept same decides e.0) ts

  -- the tokens of two texts that agree in kind and text, wherever they stand
  pub tokens_decide : (ts us : List (SignificantToken Name ℕ)) → Alike ts us → Same (names ts us) → Rising (places ts us) → answer Name ℕ same_name us ≡ answer Name ℕ same_name ts
  tokens_decide ts us a s r = decided same_name names_decide ts us a (same_match _ s) (rising_match _ r)

  -- and those that differ by a renaming that is one to one
  pub renaming : (ts us : List (SignificantToken Name ℕ)) → Alike ts us → Matched (names ts us) → Rising (places ts us) → answer Name ℕ same_name us ≡ answer Name ℕ same_name ts
  renaming ts us a m r = decided same_name names_decide ts us a m (rising_match _ r)

-- An answer that holds names and places is carried along.
module _ {ℓ} (F : Type 0 → Type 0 → Type ℓ) (over : (N M P Q : Type 0) → (N → M) → (P → Q) → F N P → F M Q) (still : (N P : Type 0) (x : F N P) → over N N P P (λ n. n) (λ p. p) x ≡ x)
    (answer : (N P : Type 0) → (N → N → Bool) → List (SignificantToken N P) → F N P) where
  pub carried_over : {N : Type 0} (same : N → N → Bool) (decides : (a b : N) → (same a b ≡ true) ↔ (a ≡ b)) (ts us : List (SignificantToken N ℕ)) → Alike ts us → Matched (names ts us) → Matched (places ts us)
      → (e : N → N) × (d : ℕ → ℕ) × Carries e (names ts us) × Carries d (places ts us) × (answer N ℕ same us ≡ over N N ℕ ℕ e d (answer N ℕ same ts))
  carried_over same decides ts us a m r =
      let e = extend same decides (names ts us) m in
      let d = extend nat_eq numbers (places ts us) r in
      (e.0.fun, d.0.fun, e.1, d.1, ap (λ v. answer _ ℕ same v) (sym (carried e.0.fun d.0.fun ts us a e.1 d.1)) ∙ free_over F over still answer (iso_to_equiv e.0) (iso_to_equiv d.0) same same (kept same decides e.0) ts)
