-- The scan of digits and their grammar.
use Rattle.std.proofs.Common.{◌≡◌, ℕ, Bool, true, false, List, [], ◌∷◌, ◌++◌, Some, refl, sym, ◌∙◌, ap, inl, inr}
use Rattle.std.specs.Prelude.{◌==◌}
use Rattle.std.proofs.lemmas.Bool.{cases_Bool, eqb-true}
use Rattle.wast_lexer_numbers.specs.Numbers.{is_base, Digits}
use Rattle.wast_lexer_numbers.specs.Numbers.Digits.{Last, Next, Gap}
use Rattle.wast_lexer_numbers.specs.NumberScan.{after}

on_base : (hex gap : Bool) (c : ℕ) (text : List ℕ) → is_base hex c ≡ true → after hex gap (c ∷ text) ≡ after hex false text
on_base hex gap c text h = rw (after, h) refl

no_base : (hex : Bool) → is_base hex 95 ≡ false
no_base true = refl
no_base false = refl

on_gap : (hex : Bool) (text : List ℕ) → after hex false (95 ∷ text) ≡ after hex true text
on_gap hex text = rw (after, no_base hex) refl

-- digits are scanned up to what does not go on with them
pub digits_scanned : (hex : Bool) (ds rest : List ℕ) → Digits hex ds → after hex false rest ≡ Some rest → (gap : Bool) → after hex gap (ds ++ rest) ≡ Some rest
digits_scanned hex ds rest (Last c p) h gap = on_base hex gap c rest p ∙ h
digits_scanned hex ds rest (Next c text p d) h gap = on_base hex gap c (text ++ rest) p ∙ digits_scanned hex text rest d h false
digits_scanned hex ds rest (Gap c text p d) h gap = on_base hex gap c (95 ∷ (text ++ rest)) p ∙ on_gap hex (text ++ rest) ∙ digits_scanned hex text rest d h true

-- what stands before the rest: digits, or nothing more behind a digit
abbrev pub Behind : Bool → Bool → List ℕ → List ℕ → Type 0
Behind hex true text rest = (ds : List ℕ) × Digits hex ds × (text ≡ ds ++ rest)
Behind hex false text rest = (c : ℕ) → is_base hex c ≡ true → (ds : List ℕ) × Digits hex ds × (c ∷ text ≡ ds ++ rest)

-- what is scanned is digits
pub scanned_digits : (hex : Bool) (text : List ℕ) (gap : Bool) (rest : List ℕ) → after hex gap text ≡ Some rest → Behind hex gap text rest
scanned_digits hex [] true rest h = absurd (cc)
scanned_digits hex [] false rest h = let e : [] ≡ rest = cc in λ c p. (c ∷ [], Last c p, ap (λ (y : List ℕ). c ∷ y) e)
scanned_digits hex (c ∷ text) true rest h = elim (cases_Bool (is_base hex c)) [
  | inl p ↦ scanned_digits hex text false rest (sym (on_base hex true c text p) ∙ h) c p
  | inr p ↦ (let h' = rw (after, p) at h in absurd (cc))
]
scanned_digits hex (c ∷ text) false rest h = elim (cases_Bool (is_base hex c)) [
  | inl p ↦ (let more = scanned_digits hex text false rest (sym (on_base hex false c text p) ∙ h) c p in
      λ d q. (d ∷ more.0, Next d more.0 q more.1, ap (λ (y : List ℕ). d ∷ y) more.2))
  | inr p ↦ elim (cases_Bool (c == 95)) [
    | inl u ↦ (let h' : after hex true text ≡ Some rest = rw (after, p, u) at h in
        let more = scanned_digits hex text true rest h' in
        λ d q. (d ∷ 95 ∷ more.0, Gap d more.0 q more.1, ap (λ (k : ℕ). d ∷ k ∷ text) (eqb-true c 95 u) ∙ ap (λ (y : List ℕ). d ∷ 95 ∷ y) more.2))
    | inr u ↦ (let h' = rw (after, p, u) at h in let e : c ∷ text ≡ rest = cc in
        λ d q. (d ∷ [], Last d q, ap (λ (y : List ℕ). d ∷ y) e))
  ]
]
