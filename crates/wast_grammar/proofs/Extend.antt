-- Pairs that match are carried by a permutation: finitely many values are renamed by one that is one to one.
use Rattle.std.proofs.Common.{◌≡◌, Bool, true, false, cond, List, [], ◌∷◌, refl, sym, ◌∙◌, ap, ◌↔◌}
use Rattle.std.proofs.lemmas.Bool.{cases_Bool}
use Rattle.std.proofs.Common.{inl, inr}
use std.Equiv.{Iso}
use Rattle.wast_grammar.specs.Alike.{Fits, Matched, Carries}

module _ {A : Type 0} (same : A → A → Bool) (decides : (a b : A) → (same a b ≡ true) ↔ (a ≡ b)) where
  abbrev swap : A → A → A → A
  swap x y a = cond (same a x) y (cond (same a y) x a)

  swap_first : (x y a : A) → a ≡ x → swap x y a ≡ y
  swap_first x y a e = ap (λ b. cond b y (cond (same a y) x a)) ((decides a x).1 e)

  swap_second : (x y a : A) → a ≡ y → swap x y a ≡ x
  swap_second x y a e = elim (cases_Bool (same a x)) [
    | inl t ↦ ap (λ b. cond b y (cond (same a y) x a)) t ∙ sym e ∙ (decides a x).0 t
    | inr n ↦ ap (λ b. cond b y (cond (same a y) x a)) n ∙ ap (λ b. cond b x a) ((decides a y).1 e)
  ]

  swap_else : (x y a : A) → same a x ≡ false → same a y ≡ false → swap x y a ≡ a
  swap_else x y a n m = ap (λ b. cond b y (cond (same a y) x a)) n ∙ ap (λ b. cond b x a) m

  -- one that is neither or both stays
  swap_keeps : (x y a : A) → ((a ≡ x) ↔ (a ≡ y)) → swap x y a ≡ a
  swap_keeps x y a h = elim (cases_Bool (same a x)) [
    | inl t ↦ (let e = (decides a x).0 t in swap_first x y a e ∙ sym (h.0 e))
    | inr n ↦ elim (cases_Bool (same a y)) [
      | inl t ↦ (let e = (decides a y).0 t in swap_second x y a e ∙ sym (h.1 e))
      | inr m ↦ swap_else x y a n m
    ]
  ]

  swap_twice : (x y a : A) → swap x y (swap x y a) ≡ a
  swap_twice x y a = elim (cases_Bool (same a x)) [
    | inl t ↦ (let e = (decides a x).0 t in swap_second x y _ (swap_first x y a e) ∙ sym e)
    | inr n ↦ elim (cases_Bool (same a y)) [
      | inl t ↦ (let e = (decides a y).0 t in swap_first x y _ (swap_second x y a e) ∙ sym e)
      | inr m ↦ (let e = swap_else x y a n m in ap (λ b. swap x y b) e ∙ e)
    ]
  ]

  abbrev then_swap : A → A → Iso A A → Iso A A
  then_swap x y i = record {
    fun = λ a. swap x y (i.fun a);
    inv = λ a. i.inv (swap x y a);
    rinv = λ a. ap (λ b. swap x y b) (i.rinv (swap x y a)) ∙ swap_twice x y a;
    linv = λ a. ap i.inv (swap_twice x y (i.fun a)) ∙ i.linv a;
  }

  pub injective : (i : Iso A A) (a b : A) → i.fun a ≡ i.fun b → a ≡ b
  injective i a b e = sym (i.linv a) ∙ ap i.inv e ∙ i.linv b

  carries_more : (i : Iso A A) (p : A × A) (ps : List (A × A)) → Fits p ps → Carries i.fun ps → Carries (λ a. swap (i.fun p.0) p.1 (i.fun a)) ps
  carries_more i p [] f c = tt
  carries_more i p (q ∷ qs) f c = (
    ap (λ b. swap (i.fun p.0) p.1 b) c.0 ∙ swap_keeps (i.fun p.0) p.1 q.1 (
      (λ e. sym (f.0.0 (injective i p.0 q.0 (sym e ∙ sym c.0)))),
      (λ e. sym c.0 ∙ ap i.fun (sym (f.0.1 (sym e)))),
    ),
    carries_more i p qs f.1 c.1,
  )

  pub extend : (ps : List (A × A)) → Matched ps → (i : Iso A A) × Carries i.fun ps
  extend [] m = (record { fun = λ a. a; inv = λ a. a; rinv = λ a. refl; linv = λ a. refl }, tt)
  extend (p ∷ ps) m =
      let r = extend ps m.1 in
      (then_swap (r.0.fun p.0) p.1 r.0, (swap_first (r.0.fun p.0) p.1 (r.0.fun p.0) refl, carries_more r.0 p ps m.0 r.1))
