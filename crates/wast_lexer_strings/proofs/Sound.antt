-- What a scan reads is a string.
use Rattle.std.proofs.Common.{◌≡◌, ℕ, ◌+◌, ◌*◌, true, false, ◌&&◌, ◌⊎◌, inl, inr, List, [], ◌∷◌, ◌++◌, Option, Some, None, refl, sym, ◌∙◌, ap, subst, arith, append_assoc}
use Rattle.std.specs.Prelude.{encode_utf8, nat_lt, ◌==◌}
use Rattle.std.proofs.lemmas.Bool.{cases_Bool, eqb-true}
use Rattle.std.proofs.lemmas.Bool.Decides.{nat_tests}
use Rattle.wast_lexer_numbers.specs.Numbers.{is_hex, Digits}
use Rattle.wast_lexer_numbers.specs.Numbers.Digits.{Last, Next, Gap as Gapped}
use Rattle.wast_lexer_strings.specs.Strings.{is_quote, is_backslash, hex_value, is_string_byte, escaped, is_scalar_value, number, Element, Elements}
use Rattle.wast_lexer_strings.specs.StringScan.{Read, more, State, Step, letter_step, digit_step, step, read}
use Rattle.wast_lexer_strings.specs.Strings.Element.{Plain, Letter, Hex, Scalar}
use Rattle.wast_lexer_strings.specs.Strings.Elements.{None', More}
use Rattle.wast_lexer_strings.specs.StringScan.State.{Within, Escape, Digit, Open, Number, Gap}
use Rattle.wast_lexer_strings.specs.StringScan.Step.{Go, Done, Fault}

abbrev pub InString : List ℕ → List ℕ → List ℕ → Type 0
InString w b rest = (inner : List ℕ) × Elements inner b × (w ≡ inner ++ 34 ∷ rest)

-- digits behind others, `}`, and the rest of a string
pub record Scalars (n : ℕ) (w b rest : List ℕ) : Type 0 where
  pub digits : List ℕ
  pub text : List ℕ
  pub bytes : List ℕ
  pub are : Digits true digits
  pub ok : is_scalar_value (number n digits) ≡ true
  pub split : w ≡ digits ++ 125 ∷ text
  pub within : InString text bytes rest
  pub spell : b ≡ encode_utf8 (number n digits) ++ bytes

abbrev pub Reaches : State → List ℕ → List ℕ → List ℕ → Type 0
Reaches Within w b rest = InString w b rest
Reaches Escape w b rest = InString (92 ∷ w) b rest
Reaches (Digit h) w b rest = is_hex h ≡ true → InString (92 ∷ h ∷ w) b rest
Reaches Open w b rest = InString (92 ∷ 117 ∷ w) b rest
Reaches (Gap n) w b rest = Scalars n w b rest
Reaches (Number n) w b rest = (m c : ℕ) → is_hex c ≡ true → 16 * m + hex_value c ≡ n → Scalars m (c ∷ w) b rest

prepend : (word bytes w b rest : List ℕ) → Element word bytes → InString w b rest → InString (word ++ w) (bytes ++ b) rest
prepend word bytes w b rest e i = (word ++ i.0, More e i.1, ap (λ y. word ++ y) i.2 ∙ sym (append_assoc word i.0 (34 ∷ rest)))

braced : (w b rest : List ℕ) → Scalars 0 w b rest → InString (92 ∷ 117 ∷ 123 ∷ w) b rest
braced w b rest s =
    let i = prepend (92 ∷ 117 ∷ 123 ∷ (s.digits ++ 125 ∷ [])) (encode_utf8 (number 0 s.digits)) s.text s.bytes rest (Scalar s.digits s.are s.ok) s.within in
    let w' : (92 ∷ 117 ∷ 123 ∷ (s.digits ++ 125 ∷ [])) ++ s.text ≡ 92 ∷ 117 ∷ 123 ∷ w = ap (λ (y : List ℕ). 92 ∷ 117 ∷ 123 ∷ y) (append_assoc s.digits (125 ∷ []) s.text ∙ sym s.split) in
    subst (λ y. InString y b rest) w' (subst (λ y. InString ((92 ∷ 117 ∷ 123 ∷ (s.digits ++ 125 ∷ [])) ++ s.text) y rest) (sym s.spell) i)

hex_not : (c : ℕ) → is_hex c ≡ true → (c == 95) ≡ false
hex_not c h = grind (arith, nat_tests)

number_on : (m c : ℕ) (ds : List ℕ) (n : ℕ) → is_hex c ≡ true → 16 * m + hex_value c ≡ n → number m (c ∷ ds) ≡ number n ds
number_on m c ds n h e = rw (number, hex_not c h) (ap (λ k. number k ds) e)

on_digit : (n c : ℕ) (w b rest : List ℕ) → Scalars n w b rest → is_hex c ≡ true → (m : ℕ) → 16 * m + hex_value c ≡ n → Scalars m (c ∷ w) b rest
on_digit n c w b rest s h m e =
    let is = number_on m c s.digits n h e in
    record {
      digits = c ∷ s.digits;
      text = s.text;
      bytes = s.bytes;
      are = Next c s.digits h s.are;
      ok = ap is_scalar_value is ∙ s.ok;
      split = ap (λ (y : List ℕ). c ∷ y) s.split;
      within = s.within;
      spell = s.spell ∙ ap (λ k. encode_utf8 k ++ s.bytes) (sym is);
    }

on_gap : (n c : ℕ) (w b rest : List ℕ) → Scalars n w b rest → is_hex c ≡ true → (m : ℕ) → 16 * m + hex_value c ≡ n → Scalars m (c ∷ 95 ∷ w) b rest
on_gap n c w b rest s h m e =
    let is : number m (c ∷ 95 ∷ s.digits) ≡ number n s.digits = number_on m c (95 ∷ s.digits) n h e in
    record {
      digits = c ∷ 95 ∷ s.digits;
      text = s.text;
      bytes = s.bytes;
      are = Gapped c s.digits h s.are;
      ok = ap is_scalar_value is ∙ s.ok;
      split = ap (λ (y : List ℕ). c ∷ 95 ∷ y) s.split;
      within = s.within;
      spell = s.spell ∙ ap (λ k. encode_utf8 k ++ s.bytes) (sym is);
    }

on_close : (n c : ℕ) (w b rest : List ℕ) → is_scalar_value n ≡ true → InString w b rest → is_hex c ≡ true → (m : ℕ) → 16 * m + hex_value c ≡ n → Scalars m (c ∷ 125 ∷ w) (encode_utf8 n ++ b) rest
on_close n c w b rest ok i h m e =
    let is : number m (c ∷ []) ≡ n = number_on m c [] n h e in
    record { digits = c ∷ []; text = w; bytes = b; are = Last c h; ok = ap is_scalar_value is ∙ ok; split = refl; within = i; spell = ap (λ k. encode_utf8 k ++ b) (sym is) }

of_digit : (n c : ℕ) (to : State) (x w b rest : List ℕ) → digit_step n c ≡ Go to x → Reaches to w b rest → (is_hex c ≡ true) × Scalars n (c ∷ w) (x ++ b) rest
of_digit n c to x w b rest e r = elim (cases_Bool (is_hex c)) [
  | inl h ↦ elim (cases_Bool (nat_lt (16 * n + hex_value c) 1114112)) [
    | inl l ↦ (let e' = rw (h, l) at e in let s : Number (16 * n + hex_value c) ≡ to = cc in let none : [] ≡ x = cc in
        let r' : Reaches (Number (16 * n + hex_value c)) w b rest = subst (λ i. Reaches i w b rest) (sym s) r in
        (h, subst (λ (y : List ℕ). Scalars n (c ∷ w) (y ++ b) rest) none (r' n c h refl)))
    | inr l ↦ (let e' = rw (h, l) at e in absurd (cc))
  ]
  | inr h ↦ (let e' = rw h at e in absurd (cc))
]

of_letter : (c : ℕ) (o : Option ℕ) (to : State) (x w b rest : List ℕ) → escaped c ≡ o → letter_step o ≡ Go to x → Reaches to w b rest → InString (92 ∷ c ∷ w) (x ++ b) rest
of_letter c None to x w b rest is e r = absurd (cc)
of_letter c (Some d) to x w b rest is e r =
    let s : Within ≡ to = cc in let one : d ∷ [] ≡ x = cc in
    subst (λ (y : List ℕ). InString (92 ∷ c ∷ w) (y ++ b) rest) one (prepend (92 ∷ c ∷ []) (d ∷ []) w b rest (Letter is) (subst (λ i. Reaches i w b rest) (sym s) r))

back : (from to : State) (c : ℕ) (x w b rest : List ℕ) → step from c ≡ Go to x → Reaches to w b rest → Reaches from (c ∷ w) (x ++ b) rest
back Within to c x w b rest e r = elim (cases_Bool (is_quote c)) [
  | inl q ↦ (let e' = rw q at e in absurd (cc))
  | inr q ↦ elim (cases_Bool (is_backslash c)) [
    | inl k ↦ (let e' = rw (q, k) at e in let s : Escape ≡ to = cc in let none : [] ≡ x = cc in
        subst (λ (y : List ℕ). InString (c ∷ w) (y ++ b) rest) none (subst (λ (i : ℕ). InString (i ∷ w) b rest) (sym (eqb-true c 92 k)) (subst (λ i. Reaches i w b rest) (sym s) r)))
    | inr k ↦ elim (cases_Bool (is_string_byte c)) [
      | inl p ↦ (let e' = rw (p, q, k) at e in let s : Within ≡ to = cc in let one : c ∷ [] ≡ x = cc in
          subst (λ (y : List ℕ). InString (c ∷ w) (y ++ b) rest) one (prepend (c ∷ []) (c ∷ []) w b rest (Plain p) (subst (λ i. Reaches i w b rest) (sym s) r)))
      | inr p ↦ (let e' = rw (p, q, k) at e in absurd (cc))
    ]
  ]
]
back Escape to c x w b rest e r = elim (cases_Bool (c == 117)) [
  | inl u ↦ (let e' = rw u at e in let s : Open ≡ to = cc in let none : [] ≡ x = cc in
      subst (λ (y : List ℕ). InString (92 ∷ c ∷ w) (y ++ b) rest) none (subst (λ (i : ℕ). InString (92 ∷ i ∷ w) b rest) (sym (eqb-true c 117 u)) (subst (λ i. Reaches i w b rest) (sym s) r)))
  | inr u ↦ elim (cases_Bool (is_hex c)) [
    | inl h ↦ (let e' = rw (u, h) at e in let s : Digit c ≡ to = cc in let none : [] ≡ x = cc in
        let r' : Reaches (Digit c) w b rest = subst (λ i. Reaches i w b rest) (sym s) r in
        subst (λ (y : List ℕ). InString (92 ∷ c ∷ w) (y ++ b) rest) none (r' h))
    | inr h ↦ (let e' : letter_step (escaped c) ≡ Go to x = rw (u, h) at e in of_letter c (escaped c) to x w b rest refl e' r)
  ]
]
back (Digit f) to c x w b rest e r = elim (cases_Bool (is_hex c)) [
  | inl h ↦ (let e' = rw h at e in let s : Within ≡ to = cc in let one : (16 * hex_value f + hex_value c) ∷ [] ≡ x = cc in
      λ is_first. subst (λ (y : List ℕ). InString (92 ∷ f ∷ c ∷ w) (y ++ b) rest) one (prepend (92 ∷ f ∷ c ∷ []) _ w b rest (Hex is_first h) (subst (λ i. Reaches i w b rest) (sym s) r)))
  | inr h ↦ (let e' = rw h at e in absurd (cc))
]
back Open to c x w b rest e r = elim (cases_Bool (c == 123)) [
  | inl u ↦ (let e' = rw u at e in let s : Gap 0 ≡ to = cc in let none : [] ≡ x = cc in
      let r' : Reaches (Gap 0) w b rest = subst (λ i. Reaches i w b rest) (sym s) r in
      subst (λ (y : List ℕ). InString (92 ∷ 117 ∷ c ∷ w) (y ++ b) rest) none (subst (λ (i : ℕ). InString (92 ∷ 117 ∷ i ∷ w) b rest) (sym (eqb-true c 123 u)) (braced w b rest r')))
  | inr u ↦ (let e' = rw u at e in absurd (cc))
]
back (Gap n) to c x w b rest e r = (of_digit n c to x w b rest e r).1
back (Number n) to c x w b rest e r = elim (cases_Bool (c == 125)) [
  | inl u ↦ elim (cases_Bool (is_scalar_value n)) [
    | inl ok ↦ (let e' = rw (u, ok) at e in let s : Within ≡ to = cc in let one : encode_utf8 n ≡ x = cc in
        let i : InString w b rest = subst (λ i. Reaches i w b rest) (sym s) r in
        λ m d h is. subst (λ (y : List ℕ). Scalars m (d ∷ c ∷ w) (y ++ b) rest) one (subst (λ (k : ℕ). Scalars m (d ∷ k ∷ w) (encode_utf8 n ++ b) rest) (sym (eqb-true c 125 u)) (on_close n d w b rest ok i h m is)))
    | inr ok ↦ (let e' = rw (u, ok) at e in absurd (cc))
  ]
  | inr u ↦ elim (cases_Bool (c == 95)) [
    | inl v ↦ (let e' = rw (u, v) at e in let s : Gap n ≡ to = cc in let none : [] ≡ x = cc in
        let g : Scalars n w b rest = subst (λ i. Reaches i w b rest) (sym s) r in
        λ m d h is. subst (λ (y : List ℕ). Scalars m (d ∷ c ∷ w) (y ++ b) rest) none (subst (λ (k : ℕ). Scalars m (d ∷ k ∷ w) b rest) (sym (eqb-true c 95 v)) (on_gap n d w b rest g h m is)))
    | inr v ↦ (let e' : digit_step n c ≡ Go to x = rw (u, v) at e in
        let g = of_digit n c to x w b rest e' r in
        λ m d h is. on_digit n d (c ∷ w) (x ++ b) rest g.1 h m is)
  ]
]

step_cases : (y : Step) → ((to : State) × (x : List ℕ) × (y ≡ Go to x)) ⊎ ((y ≡ Done) ⊎ (y ≡ Fault))
step_cases (Go to x) = inl (to, x, refl)
step_cases Done = inr (inl refl)
step_cases Fault = inr (inr refl)

more_is : (x : List ℕ) (o : Option Read) (r : Read) → more x o ≡ Some r → (q : Read) × (o ≡ Some q) × (r.bytes ≡ x ++ q.bytes) × (r.rest ≡ q.rest)
more_is x None r h = absurd (cc)
more_is x (Some q) r h = let e : record { bytes = x ++ q.bytes; rest = q.rest } ≡ r = cc in (q, refl, sym (ap (λ (y : Read). y.bytes) e), sym (ap (λ (y : Read). y.rest) e))

no_digit : (n c : ℕ) → digit_step n c ≡ Done → ⊥
no_digit n c e = elim (cases_Bool (is_hex c && nat_lt (16 * n + hex_value c) 1114112)) [ inl h ↦ (let e' = rw h at e in cc) | inr h ↦ (let e' = rw h at e in cc) ]

done_within : (s : State) (c : ℕ) → step s c ≡ Done → (s ≡ Within) × (c ≡ 34)
done_within Within c e = elim (cases_Bool (is_quote c)) [
  | inl q ↦ (refl, eqb-true c 34 q)
  | inr q ↦ elim (cases_Bool (is_backslash c)) [
    | inl k ↦ (let e' = rw (q, k) at e in absurd (cc))
    | inr k ↦ elim (cases_Bool (is_string_byte c)) [
      | inl p ↦ (let e' = rw (p, q, k) at e in absurd (cc))
      | inr p ↦ (let e' = rw (p, q, k) at e in absurd (cc))
    ]
  ]
]
done_within Escape c e = elim (cases_Bool (c == 117)) [
  | inl u ↦ (let e' = rw u at e in absurd (cc))
  | inr u ↦ elim (cases_Bool (is_hex c)) [
    | inl h ↦ (let e' = rw (u, h) at e in absurd (cc))
    | inr h ↦ (let e' : letter_step (escaped c) ≡ Done = rw (u, h) at e in absurd (no_letter (escaped c) e'))
  ]
]
  where
    no_letter : (o : Option ℕ) → letter_step o ≡ Done → ⊥
    no_letter None e = cc
    no_letter (Some d) e = cc
done_within (Digit f) c e = elim (cases_Bool (is_hex c)) [ inl h ↦ (let e' = rw h at e in absurd (cc)) | inr h ↦ (let e' = rw h at e in absurd (cc)) ]
done_within Open c e = elim (cases_Bool (c == 123)) [ inl h ↦ (let e' = rw h at e in absurd (cc)) | inr h ↦ (let e' = rw h at e in absurd (cc)) ]
done_within (Gap n) c e = absurd (no_digit n c e)
done_within (Number n) c e = elim (cases_Bool (c == 125)) [
  | inl u ↦ elim (cases_Bool (is_scalar_value n)) [ inl ok ↦ (let e' = rw (u, ok) at e in absurd (cc)) | inr ok ↦ (let e' = rw (u, ok) at e in absurd (cc)) ]
  | inr u ↦ elim (cases_Bool (c == 95)) [
    | inl v ↦ (let e' = rw (u, v) at e in absurd (cc))
    | inr v ↦ (let e' : digit_step n c ≡ Done = rw (u, v) at e in absurd (no_digit n c e'))
  ]
]

pub read_sound : (text : List ℕ) (s : State) (r : Read) → read s text ≡ Some r → Reaches s text r.bytes r.rest
read_sound [] s r h = absurd (cc)
read_sound (c ∷ text) s r h = elim (step_cases (step s c)) [
  | inl g ↦
      let h' : more g.1 (read g.0 text) ≡ Some r = rw (read, g.2) at h in
      let q = more_is g.1 (read g.0 text) r h' in
      let i = back s g.0 c g.1 text q.0.bytes q.0.rest g.2 (read_sound text g.0 q.0 q.1) in
      subst (λ y. Reaches s (c ∷ text) y r.rest) (sym q.2) (subst (λ y. Reaches s (c ∷ text) (g.1 ++ q.0.bytes) y) (sym q.3) i)
  | inr (inl d) ↦
      let is = done_within s c d in
      let h' = rw (read, d) at h in
      let e : record { bytes = []; rest = text } ≡ r = cc in
      subst (λ (y : Read). Reaches s (c ∷ text) y.bytes y.rest) e (subst (λ y. Reaches y (c ∷ text) [] text) (sym is.0) ([], None', ap (λ (k : ℕ). k ∷ text) is.1))
  | inr (inr f) ↦ (let h' = rw (read, f) at h in absurd (cc))
]
