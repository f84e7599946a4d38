-- What is made of tokens over any names and places, by tests of names, made-up names and what names show, keeps where tokens are renamed
-- and moved.
use Rattle.std.proofs.Common.{◌≡◌, ℕ, Bool, List, map, ◌∙◌, ap}
use std.Univalence.{equiv_j}
use std.Equiv.{◌≃◌, id_equiv}
use std.Path.{fun_ext}
use Rattle.wast_grammar.specs.Tokens.{SignificantToken}
use Rattle.wast_grammar.specs.Alike.{move, Keeps}
use Rattle.wast_grammar.proofs.Free.{moves_none}

-- what is known of names: which are the same, which are made up, the one that a number makes, and what each shows
pub record Known (N : Type 0) : Type 0 where
  pub same : N → N → Bool
  pub is_made : N → Bool
  pub made : ℕ → N
  pub show : N → List ℕ

-- the same of the counterparts of names
pub record Kept {N M : Type 0} (k : Known N) (l : Known M) (f : N → M) : Type 0 where
  pub same : Keeps k.same l.same f
  pub is_made : (n : N) → l.is_made (f n) ≡ k.is_made n
  pub made : (i : ℕ) → l.made i ≡ f (k.made i)
  pub show : (n : N) → l.show (f n) ≡ k.show n

same_known : {N : Type 0} (k l : Known N) → Kept k l (λ n. n) → l ≡ k
same_known k l kept = λ i. record {
  same = fun_ext (λ a. fun_ext (λ b. kept.same a b)) i;
  is_made = fun_ext (λ n. kept.is_made n) i;
  made = fun_ext (λ n. kept.made n) i;
  show = fun_ext (λ n. kept.show n) i;
}

module _ {R : Type 0} (answer : (N P : Type 0) → Known N → List (SignificantToken N P) → R) where
  moved : {N P Q : Type 0} (k : Known N) (d : P ≃ Q) (ts : List (SignificantToken N P)) → answer N Q k (map (move (λ n. n) d.0) ts) ≡ answer N P k ts
  unfolding id_equiv
  moved {N} {P} {Q} k d = equiv_j {B = Q} (λ P d. (ts : List (SignificantToken N P)) → answer N Q k (map (move (λ n. n) d.0) ts) ≡ answer N P k ts) (λ ts. ap (λ v. answer N Q k v) (moves_none ts)) d

  pub free : {N M P Q : Type 0} (e : N ≃ M) (d : P ≃ Q) (k : Known N) (l : Known M) → Kept k l e.0 → (ts : List (SignificantToken N P)) → answer M Q l (map (move e.0 d.0) ts) ≡ answer N P k ts
  unfolding id_equiv
  free {N} {M} {P} {Q} e d = equiv_j {B = M} (λ N e. (k : Known N) (l : Known M) → Kept k l e.0 → (ts : List (SignificantToken N P)) → answer M Q l (map (move e.0 d.0) ts) ≡ answer N P k ts)
      (λ k l kept ts. ap (λ v. answer M Q v (map (move (λ n. n) d.0) ts)) (same_known k l kept) ∙ moved k d ts) e
