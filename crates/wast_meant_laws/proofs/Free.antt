-- What is made for any names with two tests and any places goes along with a renaming.
use Rattle.std.proofs.Common.{◌≡◌, Bool, refl, sym, ◌∙◌, ap}
use std.Equiv.{Iso, iso_to_equiv}
use std.Path.{fun_ext, transport, transport_refl, path_j}
use std.Univalence.{iso_to_path, ua-β}
use Rattle.wast_grammar.specs.Alike.{Keeps}
use Rattle.wast_resolve_laws.specs.Renamed.{renamed}
use Rattle.wast_resolve_laws.proofs.Renamed as one_test

-- a test of names, and another that says of counterparts what it says
abbrev Test : Type 0 → Type 0 → Type 0
Test N P = N → Bool

test_still : {N : Type 0} (P : Type 0) (made other : N → Bool) → ((n : N) → other (transport refl n) ≡ made n) → transport (λ i. Test N P) made ≡ other
test_still P made other kept = transport_refl made ∙ fun_ext (λ n. sym (kept n) ∙ ap other (transport_refl n))

test_along : {N M P Q : Type 0} (n : N ≡ M) (p : P ≡ Q) (made : N → Bool) (other : M → Bool) → ((a : N) → other (transport n a) ≡ made a) → transport (λ i. Test (n i) (p i)) made ≡ other
test_along {N} {M} {P} {Q} n p =
    path_j (λ M n. (made : N → Bool) (other : M → Bool) → ((a : N) → other (transport n a) ≡ made a) → transport (λ i. Test (n i) (p i)) made ≡ other)
    (path_j (λ Q p. (made other : N → Bool) → ((a : N) → other (transport refl a) ≡ made a) → transport (λ i. Test N (p i)) made ≡ other) (test_still P) p)
    n

test_so : {N M P Q : Type 0} (names : Iso N M) (places : Iso P Q) (made : N → Bool) (other : M → Bool) → ((n : N) → other (names.fun n) ≡ made n) → renamed Test names places made ≡ other
test_so names places made other kept =
    test_along (iso_to_path names) (iso_to_path places) made other (λ n. ap other (ua-β (iso_to_equiv names) n) ∙ kept n)

-- THE FREE THEOREM: an answer can't tell names but by the tests, nor places at all
module _ (F G : Type 0 → Type 0 → Type 0) (answer : (N P : Type 0) → (N → N → Bool) → (N → Bool) → F N P → G N P) where
  abbrev Tested : Type 0 → Type 0 → Type 0
  Tested N P = (N → Bool) × F N P

  pub free : {N M P Q : Type 0} (names : Iso N M) (places : Iso P Q) (eq : N → N → Bool) (new : M → M → Bool) → Keeps eq new names.fun
      → (made : N → Bool) (other : M → Bool) → ((n : N) → other (names.fun n) ≡ made n) → (x : F N P)
      → answer M Q new other (renamed F names places x) ≡ renamed G names places (answer N P eq made x)
  free {N} {M} {P} {Q} names places eq new keeps made other kept x =
      ap (λ test. answer M Q new test (renamed F names places x)) (sym (test_so names places made other kept))
      ∙ one_test.free Tested G (λ N P eq x. answer N P eq x.0 x.1) names places eq new keeps (made, x)

-- WHAT IS SAID of names by the tests, and of places in no way, is said of their counterparts
module _ (F : Type 0 → Type 0 → Type 0) (says : (N P : Type 0) → (N → N → Bool) → (N → Bool) → F N P → Type 0) where
  said_still : {N P : Type 0} (eq new : N → N → Bool) → Keeps eq new (transport refl) → (made other : N → Bool) → ((n : N) → other (transport refl n) ≡ made n) → (x : F N P)
      → says N P new other (transport (λ i. F N P) x) ≡ says N P eq made x
  said_still {N} {P} eq new keeps made other kept x =
      ap (λ y. says N P new other y) (transport_refl x)
      ∙ ap (λ test. says N P test other x) (fun_ext (λ a. fun_ext (λ b. ap (λ c. new c b) (sym (transport_refl a)) ∙ ap (λ c. new (transport refl a) c) (sym (transport_refl b)) ∙ keeps a b)))
      ∙ ap (λ test. says N P eq test x) (fun_ext (λ n. ap other (sym (transport_refl n)) ∙ kept n))

  said_along : {N M P Q : Type 0} (n : N ≡ M) (p : P ≡ Q) (eq : N → N → Bool) (new : M → M → Bool) → Keeps eq new (transport n)
      → (made : N → Bool) (other : M → Bool) → ((a : N) → other (transport n a) ≡ made a) → (x : F N P)
      → says M Q new other (transport (λ i. F (n i) (p i)) x) ≡ says N P eq made x
  said_along {N} {M} {P} {Q} n p =
      path_j (λ M n. (eq : N → N → Bool) (new : M → M → Bool) → Keeps eq new (transport n) → (made : N → Bool) (other : M → Bool) → ((a : N) → other (transport n a) ≡ made a) → (x : F N P)
      → says M Q new other (transport (λ i. F (n i) (p i)) x) ≡ says N P eq made x)
      (path_j (λ Q p. (eq new : N → N → Bool) → Keeps eq new (transport refl) → (made other : N → Bool) → ((a : N) → other (transport refl a) ≡ made a) → (x : F N P)
      → says N Q new other (transport (λ i. F N (p i)) x) ≡ says N P eq made x) said_still p)
      n

  pub said : {N M P Q : Type 0} (names : Iso N M) (places : Iso P Q) (eq : N → N → Bool) (new : M → M → Bool) → Keeps eq new names.fun
      → (made : N → Bool) (other : M → Bool) → ((n : N) → other (names.fun n) ≡ made n) → (x : F N P)
      → says M Q new other (renamed F names places x) ≡ says N P eq made x
  said names places eq new keeps made other kept =
      said_along (iso_to_path names) (iso_to_path places) eq new
      (λ a b. ap (λ c. new c (transport (iso_to_path names) b)) (ua-β (iso_to_equiv names) a) ∙ ap (λ c. new (names.fun a) c) (ua-β (iso_to_equiv names) b) ∙ keeps a b)
      made other (λ n. ap other (ua-β (iso_to_equiv names) n) ∙ kept n)
