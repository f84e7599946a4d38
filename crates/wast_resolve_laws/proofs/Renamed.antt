-- What is made for any names with a test and any places goes along with a renaming.
use Rattle.std.proofs.Common.{◌≡◌, Bool, refl, sym, ◌∙◌, ap}
use std.Equiv.{Iso, iso_to_equiv}
use std.Path.{fun_ext, transport, transport_refl, path_j}
use std.Univalence.{iso_to_path, ua-β}
use Rattle.wast_grammar.specs.Alike.{Keeps}
use Rattle.wast_resolve_laws.specs.Renamed.{renamed}

-- along equal types
abbrev along : (T : Type 0 → Type 0 → Type 0) {N M P Q : Type 0} → N ≡ M → P ≡ Q → T N P → T M Q
along T n p x = transport (λ i. T (n i) (p i)) x

-- THE FREE THEOREM: an answer can't tell names but by the test, nor places at all
module _ (F G : Type 0 → Type 0 → Type 0) (answer : (N P : Type 0) → (N → N → Bool) → F N P → G N P) where
  free_still : {N P : Type 0} (eq new : N → N → Bool) → Keeps eq new (transport refl) → (x : F N P) → answer N P new (along F refl refl x) ≡ along G refl refl (answer N P eq x)
  free_still {N} {P} eq new keeps x =
      ap (λ y. answer N P new y) (transport_refl x)
      ∙ ap (λ test. answer N P test x) (fun_ext (λ a. fun_ext (λ b. ap (λ c. new c b) (sym (transport_refl a)) ∙ ap (λ c. new (transport refl a) c) (sym (transport_refl b)) ∙ keeps a b)))
      ∙ sym (transport_refl (answer N P eq x))

  free_along : {N M P Q : Type 0} (n : N ≡ M) (p : P ≡ Q) (eq : N → N → Bool) (new : M → M → Bool) → Keeps eq new (transport n) → (x : F N P) → answer M Q new (along F n p x) ≡ along G n p (answer N P eq x)
  free_along {N} {M} {P} {Q} n p =
      path_j (λ M n. (eq : N → N → Bool) (new : M → M → Bool) → Keeps eq new (transport n) → (x : F N P) → answer M Q new (along F n p x) ≡ along G n p (answer N P eq x))
      (path_j (λ Q p. (eq new : N → N → Bool) → Keeps eq new (transport refl) → (x : F N P) → answer N Q new (along F refl p x) ≡ along G refl p (answer N P eq x)) free_still p)
      n

  pub free : {N M P Q : Type 0} (names : Iso N M) (places : Iso P Q) (eq : N → N → Bool) (new : M → M → Bool) → Keeps eq new names.fun → (x : F N P)
      → answer M Q new (renamed F names places x) ≡ renamed G names places (answer N P eq x)
  free names places eq new keeps =
      free_along (iso_to_path names) (iso_to_path places) eq new
      (λ a b. ap (λ c. new c (transport (iso_to_path names) b)) (ua-β (iso_to_equiv names) a) ∙ ap (λ c. new (names.fun a) c) (ua-β (iso_to_equiv names) b) ∙ keeps a b)

-- A MAP over names and places that leaves all as it is where these stay is the renaming
module _ (T : Type 0 → Type 0 → Type 0) (over : (N M P Q : Type 0) → (N → M) → (P → Q) → T N P → T M Q) (still : (N P : Type 0) (x : T N P) → over N N P P (λ n. n) (λ p. p) x ≡ x) where
  over_still : {N P : Type 0} (x : T N P) → along T refl refl x ≡ over N N P P (transport refl) (transport refl) x
  over_still {N} {P} x =
      transport_refl x
      ∙ sym (still N P x)
      ∙ ap (λ f. over N N P P f (λ p. p) x) (fun_ext (λ n. sym (transport_refl n)))
      ∙ ap (λ g. over N N P P (transport refl) g x) (fun_ext (λ p. sym (transport_refl p)))

  over_along : {N M P Q : Type 0} (n : N ≡ M) (p : P ≡ Q) (x : T N P) → along T n p x ≡ over N M P Q (transport n) (transport p) x
  over_along {N} {M} {P} {Q} n p =
      path_j (λ M n. (x : T N P) → along T n p x ≡ over N M P Q (transport n) (transport p) x)
      (path_j (λ Q p. (x : T N P) → along T refl p x ≡ over N N P Q (transport refl) (transport p) x) over_still p)
      n

  pub renamed_so : {N M P Q : Type 0} (names : Iso N M) (places : Iso P Q) (x : T N P) → renamed T names places x ≡ over N M P Q names.fun places.fun x
  renamed_so {N} {M} {P} {Q} names places x =
      over_along (iso_to_path names) (iso_to_path places) x
      ∙ ap (λ f. over N M P Q f (transport (iso_to_path places)) x) (fun_ext (λ n. ua-β (iso_to_equiv names) n))
      ∙ ap (λ g. over N M P Q names.fun g x) (fun_ext (λ p. ua-β (iso_to_equiv places) p))
