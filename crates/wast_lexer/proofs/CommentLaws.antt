-- Where block comments end.
use Rattle.std.proofs.Common.{◌≡◌, ℕ, zero, suc, ◌+◌, ◌-◌, Bool, false, inl, inr, ◌&&◌, List, [], ◌∷◌, ◌++◌, Some, add-one, refl, sym, ◌∙◌, ap, subst, arith, append_assoc}
use Rattle.std.specs.Prelude.{◌==◌}
use Rattle.std.proofs.lemmas.Bool.{cases_Bool, and_parts, eqb-true}
use Rattle.std.proofs.lemmas.Bool.Decides.{nat_tests}
use Rattle.wast_lexer.specs.Kinds.{starts, is_open, is_close, is_semicolon, Inside}
use Rattle.wast_lexer.specs.Kinds.Inside.{Nothing, Byte, Nested}
use Rattle.wast_lexer.specs.Scan.{close}

not_both : (c n : ℕ) (t : Bool) → (c ≡ n → t ≡ false) → ((c == n) && t) ≡ false
not_both c n t h = elim (cases_Bool (c == n)) [ inl is ↦ rw is (h (eqb-true c n is)) | inr isnt ↦ rw isnt refl ]

pub close_byte : (d c : ℕ) (s : List ℕ) → (c ≡ 40 → starts is_semicolon s ≡ false) → (c ≡ 59 → starts is_close s ≡ false) → close d (c ∷ s) ≡ close d s
close_byte d c [] o e = refl
close_byte d c (b ∷ s) o e = rw (not_both c 40 (is_semicolon b) o, not_both c 59 (is_close b) e) refl

starts_more : (p : ℕ → Bool) (s r : List ℕ) → starts p (s ++ 59 ∷ []) ≡ starts p (s ++ 59 ∷ r)
starts_more p [] r = refl
starts_more p (c ∷ s) r = refl

close_end : (d : ℕ) (r : List ℕ) → close (d + 1) (59 ∷ 41 ∷ r) ≡ close d r
close_end d r = let n : (d + 1 == 0) ≡ false = grind (arith, nat_tests) in let m : d + 1 - 1 ≡ d = omega arith in rw (n, m) refl

pub close_inside : {w : List ℕ} → Inside w → (d : ℕ) (r : List ℕ) → close d (w ++ 59 ∷ 41 ∷ r) ≡ close d (59 ∷ 41 ∷ r)
close_inside Nothing d r = refl
close_inside (Byte {c} {text} loose inside) d r =
    close_byte d c (text ++ 59 ∷ 41 ∷ r) (λ e. sym (starts_more is_semicolon text (41 ∷ r)) ∙ loose.0 e) (λ e. sym (starts_more is_close text (41 ∷ r)) ∙ loose.1 e) ∙ close_inside inside d r
close_inside (Nested {inner} {text} i j) d r =
    rw append_assoc (close_inside i (d + 1) (text ++ 59 ∷ 41 ∷ r) ∙ close_end d (text ++ 59 ∷ 41 ∷ r) ∙ close_inside j d r)

-- the end of a comment, so many levels deep
abbrev Levels : ℕ → List ℕ → Type 0
Levels zero w = (inner : List ℕ) × Inside inner × (w ≡ inner ++ 59 ∷ 41 ∷ [])
Levels (suc d) w = (inner : List ℕ) × (tail : List ℕ) × Inside inner × (w ≡ inner ++ 59 ∷ 41 ∷ tail) × Levels d tail

grow : (d : ℕ) (x w : List ℕ) → ((v tail : List ℕ) → w ≡ v ++ 59 ∷ 41 ∷ tail → Inside v → Inside (x ++ v)) → Levels d w → Levels d (x ++ w)
grow zero x w f l = (x ++ l.0, f l.0 [] l.2 l.1, ap (λ y. x ++ y) l.2 ∙ sym (append_assoc x l.0 (59 ∷ 41 ∷ [])))
grow (suc d) x w f l = (x ++ l.0, l.1, f l.0 l.1 l.3 l.2, ap (λ y. x ++ y) l.3 ∙ sym (append_assoc x l.0 (59 ∷ 41 ∷ l.1)), l.4)

from_not_both : (c n : ℕ) (t : Bool) → ((c == n) && t) ≡ false → c ≡ n → t ≡ false
from_not_both c n t h e = grind (arith, nat_tests)

-- the level above the first closes
deeper : (d : ℕ) (w : List ℕ) → Levels (suc d) w → Levels d (40 ∷ 59 ∷ w)
deeper d w l =
    subst (Levels d) (ap (λ (y : List ℕ). 40 ∷ 59 ∷ y) (append_assoc l.0 (59 ∷ 41 ∷ []) l.1 ∙ sym l.3))
    (grow d (40 ∷ 59 ∷ (l.0 ++ 59 ∷ 41 ∷ [])) l.1 (λ v t e inside. rw append_assoc (Nested l.2 inside)) l.4)

deeper_by_one : (d : ℕ) (w : List ℕ) → Levels (d + 1) w → Levels d (40 ∷ 59 ∷ w)
deeper_by_one d w l = deeper d w (rw add-one at l)

longer : (d c b : ℕ) (s w r : List ℕ) → (is_open c && is_semicolon b) ≡ false → (is_semicolon c && is_close b) ≡ false → (b ∷ s) ≡ w ++ r → Levels d w → Levels d (c ∷ w)
longer d c b s w r o e split l =
    grow d (c ∷ []) w (λ v t ends inside.
    let same : (p : ℕ → Bool) → starts p (v ++ 59 ∷ []) ≡ p b = λ p. starts_more p v (41 ∷ (t ++ r)) ∙ ap (starts p) (sym (append_assoc v (59 ∷ 41 ∷ t) r) ∙ ap (λ y. y ++ r) (sym ends) ∙ sym split) in
    Byte (λ i. same is_semicolon ∙ from_not_both c 40 (is_semicolon b) o i, λ i. same is_close ∙ from_not_both c 59 (is_close b) e i) inside) l

pub close_split : (s : List ℕ) (d : ℕ) (r : List ℕ) → close d s ≡ Some r → (w : List ℕ) × (s ≡ w ++ r) × Levels d w
close_split [] d r h = absurd (cc)
close_split (c ∷ []) d r h = absurd (cc)
close_split (c ∷ b ∷ s) d r h = elim (cases_Bool (is_open c && is_semicolon b)) [
  | inl o ↦
      let both = and_parts (is_open c) (is_semicolon b) o in
      let first : c ≡ 40 = eqb-true c 40 both.0 in
      let second : b ≡ 59 = eqb-true b 59 both.1 in
      let inner = close_split s (d + 1) r (rw o at h) in
      let split = inner.1 in
      (40 ∷ 59 ∷ inner.0, cc, deeper_by_one d inner.0 inner.2)
  | inr o ↦ elim (cases_Bool (is_semicolon c && is_close b)) [
    | inl e ↦
        let both = and_parts (is_semicolon c) (is_close b) e in
        let first : c ≡ 59 = eqb-true c 59 both.0 in
        let second : b ≡ 41 = eqb-true b 41 both.1 in
        let h' = rw (o, e) at h in
        elim (cases_Bool (d == 0)) [
          | inl z ↦
              let none : d ≡ 0 = eqb-true d 0 z in
              let end = rw z at h' in
              let rest : s ≡ r = cc in
              (59 ∷ 41 ∷ [], cc, subst (λ k. Levels k (59 ∷ 41 ∷ [])) (sym none) ([], Nothing, refl))
          | inr z ↦
              let inner = close_split s (d - 1) r (rw z at h') in
              let split = inner.1 in
              let above : suc (d - 1) ≡ d = grind (arith, nat_tests) in
              (59 ∷ 41 ∷ inner.0, cc, subst (λ k. Levels k (59 ∷ 41 ∷ inner.0)) above ([], inner.0, Nothing, refl, inner.2))
        ]
    | inr e ↦
        let inner = close_split (b ∷ s) d r (rw (o, e) at h) in
        let split = inner.1 in
        (c ∷ inner.0, ap (λ y. c ∷ y) split, longer d c b s inner.0 r o e split inner.2)
  ]
]
