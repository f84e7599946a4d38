-- Tokens that differ in parts of them, and how the combinators of productions keep to it.
use Rattle.std.proofs.Common.{◌≤◌, ℕ, Bool, List, [], ◌∷◌, Option, inl, inr, sym, ap, subst, arith}
use Rattle.wast_grammar.specs.Tokens.{SignificantToken, Close}
use Rattle.wast_grammar.specs.Spelling as spelling
use Rattle.wast_grammar.specs.Spelling.{Spells}
use Rattle.wast_grammar.specs.Twins as twins
use Rattle.wast_grammar.specs.Twins.{Pairs}
use Rattle.wat_laws.specs.Flat.{unchanged}
use Rattle.wat_laws.proofs.Standing.{standing, standing_both}

module _ {N : Type 0} where
  -- Both spell the value, and no more tokens of the second stand at a place than of the first.
  pub record Rewrites {A : Type 0} (s : Spells N ℕ A) (t : Pairs N ℕ A) : Type 0 where
    pub first : (a : A) (ts us : List (SignificantToken N ℕ)) → t a ts us → s a ts
    pub second : (a : A) (ts us : List (SignificantToken N ℕ)) → t a ts us → s a us
    pub within : (a : A) (ts us : List (SignificantToken N ℕ)) → t a ts us → (p : ℕ) → standing p us ≤ standing p ts

  pub unchanged_rewrites : {A : Type 0} (s : Spells N ℕ A) → Rewrites s (unchanged s)
  unchanged_rewrites s = record {
    first = λ a ts us t. t.0;
    second = λ a ts us t. subst (s a) (sym t.1) t.0;
    within = λ a ts us t p. (let e = ap (standing p) t.1 in omega (arith, e));
  }

  pub token_rewrites : {A : Type 0} (f : SignificantToken N ℕ → Option A) → Rewrites (spelling.token f) (twins.token f)
  token_rewrites f = record {
    first = λ a ts us t. (t.0, t.1, t.2);
    second = λ a ts us t. (t.0, t.3, t.2);
    within = λ a ts us t p. (let e = ap (standing p) t.1 in let d = ap (standing p) t.3 in omega (arith, e, d));
  }

  pub next_rewrites : {A B : Type 0} (s : Spells N ℕ A) (t : Pairs N ℕ A) (r : A → Spells N ℕ B) (q : A → Pairs N ℕ B) → Rewrites s t → ((a : A) → Rewrites (r a) (q a)) → Rewrites (spelling.next s r) (twins.next t q)
  next_rewrites s t r q g h = record {
    first = λ a ts us x. (x.0, x.1, x.4, g.first _ _ _ x.6, (h a.0).first _ _ _ x.7);
    second = λ a ts us x. (x.2, x.3, x.5, g.second _ _ _ x.6, (h a.0).second _ _ _ x.7);
    within = λ a ts us x p. (
        let e = ap (standing p) x.4 in
        let d = ap (standing p) x.5 in
        let before = standing_both p x.0 x.1 in
        let after = standing_both p x.2 x.3 in
        let one = g.within _ _ _ x.6 p in
        let two = (h a.0).within _ _ _ x.7 p in
        omega (arith, e, d, before, after, one, two));
  }

  pub seen_rewrites : {A B : Type 0} (f : A → B) (s : Spells N ℕ A) (t : Pairs N ℕ A) → Rewrites s t → Rewrites (spelling.seen f s) (twins.seen f t)
  seen_rewrites f s t g = record {
    first = λ a ts us x. (x.0, x.1, g.first _ _ _ x.2);
    second = λ a ts us x. (x.0, x.1, g.second _ _ _ x.2);
    within = λ a ts us x p. g.within _ _ _ x.2 p;
  }

  pub only_rewrites : {A : Type 0} (f : A → Bool) (s : Spells N ℕ A) (t : Pairs N ℕ A) → Rewrites s t → Rewrites (spelling.only f s) (twins.only f t)
  only_rewrites f s t g = record {
    first = λ a ts us x. (x.0, g.first _ _ _ x.1);
    second = λ a ts us x. (x.0, g.second _ _ _ x.1);
    within = λ a ts us x p. g.within _ _ _ x.1 p;
  }

  pub either_rewrites : {A : Type 0} (s r : Spells N ℕ A) (t q : Pairs N ℕ A) → Rewrites s t → Rewrites r q → Rewrites (spelling.either s r) (twins.either t q)
  either_rewrites s r t q g h = record {
    first = λ a ts us x. elim x [ inl y ↦ inl (g.first _ _ _ y) | inr z ↦ inr (h.first _ _ _ z) ];
    second = λ a ts us x. elim x [ inl y ↦ inl (g.second _ _ _ y) | inr z ↦ inr (h.second _ _ _ z) ];
    within = λ a ts us x p. elim x [ inl y ↦ g.within _ _ _ y p | inr z ↦ h.within _ _ _ z p ];
  }

  module _ {A : Type 0} (s : Spells N ℕ A) (t : Pairs N ℕ A) (g : Rewrites s t) where
    many_first : (xs : List A) (ts us : List (SignificantToken N ℕ)) → twins.many t xs ts us → spelling.many s xs ts
    many_first [] ts us x = x.0
    many_first (y ∷ ys) ts us x = (x.0, x.1, x.4, g.first _ _ _ x.6, many_first ys _ _ x.7)

    many_second : (xs : List A) (ts us : List (SignificantToken N ℕ)) → twins.many t xs ts us → spelling.many s xs us
    many_second [] ts us x = x.1
    many_second (y ∷ ys) ts us x = (x.2, x.3, x.5, g.second _ _ _ x.6, many_second ys _ _ x.7)

    many_within : (p : ℕ) (xs : List A) (ts us : List (SignificantToken N ℕ)) → twins.many t xs ts us → standing p us ≤ standing p ts
    many_within p [] ts us x = let e = ap (standing p) x.1 in omega (arith, e)
    many_within p (y ∷ ys) ts us x =
        let e = ap (standing p) x.4 in
        let d = ap (standing p) x.5 in
        let before = standing_both p x.0 x.1 in
        let after = standing_both p x.2 x.3 in
        let one = g.within _ _ _ x.6 p in
        let two = many_within p ys x.1 x.3 x.7 in
        omega (arith, e, d, before, after, one, two)

    pub many_rewrites : Rewrites (spelling.many s) (twins.many t)
    many_rewrites = record { first = many_first; second = many_second; within = λ a ts us x p. many_within p a ts us x }

    pub paren_rewrites : Rewrites (spelling.paren s) (twins.paren t)
    paren_rewrites = record {
      first = λ a ts us x. (x.0, x.2, x.3, x.4, g.first _ _ _ x.6);
      second = λ a ts us x. (x.1, x.2, x.3, x.5, g.second _ _ _ x.6);
      within = λ a ts us x p. (
          let e = ap (standing p) x.4 in
          let d = ap (standing p) x.5 in
          let before = standing_both p x.0 (Close x.3 ∷ []) in
          let after = standing_both p x.1 (Close x.3 ∷ []) in
          let one = g.within _ _ _ x.6 p in
          omega (arith, e, d, before, after, one));
    }
