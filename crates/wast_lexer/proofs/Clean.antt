-- The refused characters.
use Rattle.std.proofs.Common.{◌≡◌, ℕ, ◌+◌, ◌<◌, ◌≤◌, Bool, true, false, inl, inr, List, [], ◌∷◌, length, drop, get_or, refl, ap, sym, ◌∙◌, arith}
use Rattle.std.specs.Prelude.{◌==◌}
use Rattle.std.proofs.lemmas.List.{length-drop, drop_more}
use Rattle.std.proofs.lemmas.Bool.{cases_Bool}
use Rattle.std.proofs.lemmas.Bool.Decides.{nat_tests}
use Rattle.wast_lexer.specs.Kinds.{is_clean, starts_refused, is_refused}
use Rattle.wast_lexer.specs.Scan.{skip, is_neither}
use Rattle.wast_lexer.proofs.Refused.{not_refused}

not_lead : (c : ℕ) → is_neither 0xE2 0xE2 c ≡ true → (c == 0xE2) ≡ false
not_lead c h = grind (arith, nat_tests)

clean_skip : (s : List ℕ) → is_clean s ≡ is_clean (skip (is_neither 0xE2 0xE2) s)
clean_skip [] = refl
clean_skip (c ∷ s) = elim (cases_Bool (is_neither 0xE2 0xE2 c)) [
  | inl t ↦ rw t (rw (not_refused c s (not_lead c t)) (clean_skip s))
  | inr t ↦ rw t refl
]

clean_cons : (c : ℕ) (s : List ℕ) → starts_refused (c ∷ s) ≡ false → is_clean (c ∷ s) ≡ is_clean s
clean_cons c s h = rw h refl

refused_long : (s : List ℕ) → starts_refused s ≡ true → 2 < length s
refused_long [] h = absurd (cc)
refused_long (a ∷ []) h = absurd (cc)
refused_long (a ∷ b ∷ []) h = absurd (cc)
refused_long (a ∷ b ∷ c ∷ s) h = omega arith

module _ (text : List ℕ) (start : Bool) (at to : ℕ) (so : start ≡ is_clean (drop at text)) (found : drop to text ≡ skip (is_neither 0xE2 0xE2) (drop at text)) where
  pub clean_here : start ≡ is_clean (drop to text)
  clean_here = so ∙ clean_skip (drop at text) ∙ sym (ap is_clean found)

  pub clean_on : to < length text → false ≡ starts_refused (drop to text) → start ≡ is_clean (drop (to + 1) text)
  clean_on h r = clean_here ∙ ap is_clean (drop_more text to 0 h) ∙ clean_cons (get_or text to 0) (drop (to + 1) text) (sym (r ∙ ap starts_refused (drop_more text to 0 h)))

  pub clean_not : true ≡ starts_refused (drop to text) → start ≡ false
  clean_not r = let h : to < length text = omega (arith, refused_long (drop to text) (sym r), length-drop to text) in clean_here ∙ ap is_clean (drop_more text to 0 h) ∙ (rw (sym (r ∙ ap starts_refused (drop_more text to 0 h))) refl)

pub refused_here : (text : List ℕ) (i : ℕ) → i + 2 < length text → starts_refused (drop i text) ≡ is_refused (get_or text i 0) (get_or text (i + 1) 0) (get_or text (i + 2) 0)
refused_here text i h =
    let l0 : i < length text = omega arith in
    let l1 : i + 1 < length text = omega arith in
    ap starts_refused (drop_more text i 0 l0 ∙ ap (λ (y : List ℕ). get_or text i 0 ∷ y) (drop_more text (i + 1) 0 l1 ∙ ap (λ (y : List ℕ). get_or text (i + 1) 0 ∷ y) (drop_more text (i + 1 + 1) 0 (omega arith)))) ∙ (let n : i + 1 + 1 ≡ i + 2 = omega arith in rw n refl)

short : (s : List ℕ) → length s ≤ 2 → starts_refused s ≡ false
short [] h = refl
short (a ∷ []) h = refl
short (a ∷ b ∷ []) h = refl
short (a ∷ b ∷ c ∷ s) h = absurd (omega arith)

pub refused_past : (text : List ℕ) (i : ℕ) → length text ≤ i + 2 → starts_refused (drop i text) ≡ false
refused_past text i h = short (drop i text) (omega (arith, length-drop i text))
