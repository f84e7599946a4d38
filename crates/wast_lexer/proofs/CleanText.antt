-- A text is clean where none of its characters is refused.
use Rattle.std.proofs.Common.{◌≡◌, ℕ, ◌+◌, ◌/◌, ◌%◌, ◌<◌, ◌≤◌, Bool, true, false, not, ◌&&◌, inl, inr, List, [], ◌∷◌, ◌++◌, encode_utf8_all, refl, sym, ◌∙◌, ap, arith}
use lib.Utf8
use lib.Utf8.{encode}
use Rattle.std.specs.Prelude.{◌==◌, nat_lt}
use Rattle.std.specs.List.{list_all, list_any}
use Rattle.std.proofs.lemmas.Bool.{cases_Bool, or_cases, and_parts, eqb-true}
use Rattle.std.proofs.lemmas.Bool.Decides.{nat_tests}
use Rattle.wast_lexer.specs.Kinds.{is_clean, is_refused}
use Rattle.wast_lexer.specs.Laws.{confusing}
use Rattle.wast_lexer.proofs.Refused.{not_refused}

abbrev is_confusing : ℕ → Bool
is_confusing c = list_any (λ n. c == n) confusing

-- the bytes of a character past two
abbrev refused_bytes : ℕ → Bool
refused_bytes c = is_refused (224 + c / 4096) (128 + c / 64 % 64) (128 + c % 64)

any_of : (p : ℕ → Bool) (c : ℕ) (ns : List ℕ) → list_all p ns ≡ true → list_any (λ n. c == n) ns ≡ true → p c ≡ true
any_of p c [] all any = absurd (cc)
any_of p c (n ∷ ns) all any =
    let both = and_parts (p n) (list_all p ns) all in
    elim (or_cases (c == n) (list_any (λ n. c == n) ns) any) [
      | inl is ↦ ap p (eqb-true c n is) ∙ both.0
      | inr more ↦ any_of p c ns both.1 more
    ]

refused_confuses : (c : ℕ) → refused_bytes c ≡ true → is_confusing c ≡ true
refused_confuses c h = grind (arith, nat_tests)

same_tests : (a b : Bool) → (a ≡ true → b ≡ true) → (b ≡ true → a ≡ true) → a ≡ b
same_tests true b f g = sym (f refl)
same_tests false true f g = g refl
same_tests false false f g = refl

three_bytes : (c : ℕ) → refused_bytes c ≡ is_confusing c
three_bytes c = same_tests (refused_bytes c) (is_confusing c) (refused_confuses c) (any_of refused_bytes c confusing refl)

-- a character that isn't of three bytes is none of the nine
below : (c : ℕ) → c < 2048 → is_confusing c ≡ false
below c h = grind (arith, nat_tests)

above : (c : ℕ) → 65536 ≤ c → is_confusing c ≡ false
above c h = grind (arith, nat_tests)

-- a byte that leads none of the nine is passed over
past_byte : (b : ℕ) (s : List ℕ) → (b == 0xE2) ≡ false → is_clean (b ∷ s) ≡ is_clean s
past_byte b s h = rw (not_refused b s h) refl

-- a byte behind the first of a character leads nothing
past_next : (n : ℕ) (s : List ℕ) → is_clean ((128 + n % 64) ∷ s) ≡ is_clean s
past_next n s = past_byte (128 + n % 64) s (grind (arith, nat_tests))

none_more : (confuses clean : Bool) → confuses ≡ false → clean ≡ (not confuses && clean)
none_more true clean h = absurd (cc)
none_more false clean h = refl

-- one character more
clean_char : (c : ℕ) (rest : List ℕ) → is_clean (encode c ++ rest) ≡ (not (is_confusing c) && is_clean rest)
unfolding lib.Utf8.encode
clean_char c rest = elim (cases_Bool (nat_lt c 128)) [
  | inl one ↦ rw one (past_byte c rest (grind (arith, nat_tests)) ∙ none_more (is_confusing c) (is_clean rest) (below c (grind (arith, nat_tests))))
  | inr one ↦ elim (cases_Bool (nat_lt c 2048)) [
    | inl two ↦ rw (one, two) (past_byte (192 + c / 64) ((128 + c % 64) ∷ rest) (grind (arith, nat_tests)) ∙ past_next c rest ∙ none_more (is_confusing c) (is_clean rest) (below c (grind (arith, nat_tests))))
    | inr two ↦ elim (cases_Bool (nat_lt c 65536)) [
      | inl three ↦ rw (one, two, three) (ap (λ b. b && is_clean ((128 + c / 64 % 64) ∷ (128 + c % 64) ∷ rest)) (ap not (three_bytes c)) ∙ ap (λ b. not (is_confusing c) && b) (past_next (c / 64) ((128 + c % 64) ∷ rest) ∙ past_next c rest))
      | inr three ↦
          rw (one, two, three) (
          past_byte (240 + c / 262144) ((128 + c / 4096 % 64) ∷ (128 + c / 64 % 64) ∷ (128 + c % 64) ∷ rest) (grind (arith, nat_tests)) ∙ past_next (c / 4096) ((128 + c / 64 % 64) ∷ (128 + c % 64) ∷ rest)
          ∙ past_next (c / 64) ((128 + c % 64) ∷ rest) ∙ past_next c rest ∙ none_more (is_confusing c) (is_clean rest) (above c (grind (arith, nat_tests))))
    ]
  ]
]

pub clean_chars : (cs : List ℕ) → is_clean (encode_utf8_all cs) ≡ list_all (λ c. not (is_confusing c)) cs
clean_chars [] = refl
clean_chars (c ∷ cs) = clean_char c (encode_utf8_all cs) ∙ ap (λ b. not (is_confusing c) && b) (clean_chars cs)
