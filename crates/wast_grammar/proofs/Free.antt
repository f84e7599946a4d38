-- What depends on names by a test alone, and on places in no way, keeps where tokens are renamed and moved.
use Rattle.std.proofs.Common.{◌≡◌, List, [], ◌∷◌, map, Some, None, refl, sym, ◌∙◌, ap, Bool}
use std.Univalence.{equiv_j}
use std.Equiv.{◌≃◌, id_equiv}
use std.Path.{fun_ext}
use Rattle.wast_grammar.specs.Tokens.{SignificantToken, Open, Close, Id, Word, Mark, Integer, Float, Text, Reserved, Broken}
use Rattle.wast_grammar.specs.Alike.{move, Keeps}

move_none : {N P : Type 0} (t : SignificantToken N P) → move (λ n. n) (λ p. p) t ≡ t
move_none (Open p) = refl
move_none (Close p) = refl
move_none (Id (Some n) p) = refl
move_none (Id None p) = refl
move_none (Word w p) = refl
move_none (Mark w p) = refl
move_none (Integer n w p) = refl
move_none (Float w p) = refl
move_none (Text s p) = refl
move_none (Reserved w p) = refl
move_none Broken = refl

pub moves_none : {N P : Type 0} (ts : List (SignificantToken N P)) → map (move (λ n. n) (λ p. p)) ts ≡ ts
moves_none [] = refl
moves_none (t ∷ ts) = rw (move_none t, moves_none ts) refl

-- Any answer that is made for every type of names with a test and every type of places, relations among them.
abbrev pub Answer {ℓ} : Type ℓ → Type (1 ⊔ ℓ)
Answer R = (N P : Type 0) → (N → N → Bool) → List (SignificantToken N P) → R

-- the same with another test that agrees
same_test {ℓ} : {R : Type ℓ} {N : Type 0} (eq new : N → N → Bool) → Keeps eq new (λ n. n) → (answer : (N → N → Bool) → R) → answer new ≡ answer eq
same_test eq new k answer = ap answer (fun_ext (λ a. fun_ext (λ b. k a b)))

-- It is the same for tokens that are renamed and moved.
module _ {ℓ} {R : Type ℓ} (answer : Answer R) where
  places_only : {N P Q : Type 0} (eq : N → N → Bool) (d : P ≃ Q) (ts : List (SignificantToken N P)) → answer N Q eq (map (move (λ n. n) d.0) ts) ≡ answer N P eq ts
  unfolding id_equiv
  places_only {N} {P} {Q} eq d = equiv_j {B = Q} (λ P d. (ts : List (SignificantToken N P)) → answer N Q eq (map (move (λ n. n) d.0) ts) ≡ answer N P eq ts) (λ ts. ap (λ v. answer N Q eq v) (moves_none ts)) d

  pub free : {N M P Q : Type 0} (e : N ≃ M) (d : P ≃ Q) (eq : N → N → Bool) (new : M → M → Bool) → Keeps eq new e.0 → (ts : List (SignificantToken N P)) → answer M Q new (map (move e.0 d.0) ts) ≡ answer N P eq ts
  unfolding id_equiv
  free {N} {M} {P} {Q} e d = equiv_j {B = M} (λ N e. (eq : N → N → Bool) (new : M → M → Bool) → Keeps eq new e.0 → (ts : List (SignificantToken N P)) → answer M Q new (map (move e.0 d.0) ts) ≡ answer N P eq ts)
      (λ eq new k ts. same_test eq new k (λ v. answer M Q v (map (move (λ n. n) d.0) ts)) ∙ places_only eq d ts) e

-- An answer that holds names and places has these renamed and moved.
module _ {ℓ} (F : Type 0 → Type 0 → Type ℓ) (over : (N M P Q : Type 0) → (N → M) → (P → Q) → F N P → F M Q) (still : (N P : Type 0) (x : F N P) → over N N P P (λ n. n) (λ p. p) x ≡ x)
    (answer : (N P : Type 0) → (N → N → Bool) → List (SignificantToken N P) → F N P) where
  moved : {N P Q : Type 0} (eq : N → N → Bool) (d : P ≃ Q) (ts : List (SignificantToken N P)) → answer N Q eq (map (move (λ n. n) d.0) ts) ≡ over N N P Q (λ n. n) d.0 (answer N P eq ts)
  unfolding id_equiv
  moved {N} {P} {Q} eq d = equiv_j {B = Q} (λ P d. (ts : List (SignificantToken N P)) → answer N Q eq (map (move (λ n. n) d.0) ts) ≡ over N N P Q (λ n. n) d.0 (answer N P eq ts))
      (λ ts. ap (λ v. answer N Q eq v) (moves_none ts) ∙ sym (still N Q (answer N Q eq ts))) d

  pub free_over : {N M P Q : Type 0} (e : N ≃ M) (d : P ≃ Q) (eq : N → N → Bool) (new : M → M → Bool) → Keeps eq new e.0 → (ts : List (SignificantToken N P)) → answer M Q new (map (move e.0 d.0) ts) ≡ over N M P Q e.0 d.0 (answer N P eq ts)
  unfolding id_equiv
  free_over {N} {M} {P} {Q} e d = equiv_j {B = M} (λ N e. (eq : N → N → Bool) (new : M → M → Bool) → Keeps eq new e.0 → (ts : List (SignificantToken N P)) → answer M Q new (map (move e.0 d.0) ts) ≡ over N M P Q e.0 d.0 (answer N P eq ts))
      (λ eq new k ts. same_test eq new k (λ v. answer M Q v (map (move (λ n. n) d.0) ts)) ∙ moved eq d ts) e
