-- What searches and loops over bytes find.
use Rattle.std.proofs.Common.{◌≡◌, ◌-◌, ℕ, suc, ◌+◌, ◌<◌, ◌≤◌, Bool, true, false, not, ◌⊎◌, inl, inr, List, [], ◌∷◌, length, take, drop, get_or, None, Some, refl, ap, ◌∙◌, arith}
use Rattle.std.specs.List.{prefix_len}
use Rattle.std.proofs.lemmas.List.{drop_all, take_all, length-drop, drop_more}
use Rattle.std.proofs.lemmas.List.Sums.{prefix_len_is}
use Rattle.std.proofs.lemmas.Bool.{cases_Bool, not_from_true}
use Rattle.std.proofs.lemmas.Bool.Decides.{nat_tests}
use Rattle.memchr.specs.Find.{IsFirstByte, is_byte2}
use Rattle.wast_lexer.specs.Kinds.{starts}
use Rattle.wast_lexer.specs.Scan.{skip, is_neither}

pub skip_on : (p : ℕ → Bool) (text : List ℕ) (i : ℕ) → i < length text → p (get_or text i 0) ≡ true → skip p (drop i text) ≡ skip p (drop (i + 1) text)
skip_on p text i h passes = rw (drop_more text i 0 h) (rw passes refl)

pub skip_stop : (p : ℕ → Bool) (text : List ℕ) (i : ℕ) → i < length text → p (get_or text i 0) ≡ false → skip p (drop i text) ≡ drop i text
skip_stop p text i h passes = rw (drop_more text i 0 h) (rw passes refl)

pub skip_none : (p : ℕ → Bool) (text : List ℕ) (i : ℕ) → length text ≤ i → skip p (drop i text) ≡ drop i text
skip_none p text i h = rw (drop_all i text h) refl

pub ruleset skips = (skip_on, skip_stop, skip_none)

skip_is : (p : ℕ → Bool) (s : List ℕ) → skip p s ≡ drop (prefix_len p s) s
skip_is p [] = refl
skip_is p (c ∷ s) = elim (cases_Bool (p c)) [ inl t ↦ rw t (let more : 1 + prefix_len p s ≡ suc (prefix_len p s) = omega arith in rw more (skip_is p s)) | inr t ↦ rw t refl ]

not_true : (b : Bool) → (b ≡ true → ⊥) → not b ≡ true
not_true true h = absurd (h refl)
not_true false h = refl

pub neither_at : (a b c : ℕ) → is_neither a b c ≡ true → (c ≡ a) ⊎ (c ≡ b) → ⊥
neither_at a b c h e = grind (arith, nat_tests)

-- a search finds where the bytes that are neither end
pub first_is : (a b : ℕ) (s : List ℕ) (n : ℕ) → IsFirstByte (is_byte2 a b) s (Some n) → skip (is_neither a b) s ≡ drop n s
first_is a b s n h = skip_is (is_neither a b) s ∙ ap (λ k. drop k s) (prefix_len_is (is_neither a b) s n 0 (omega arith) (λ k less. not_true (is_byte2 a b (get_or s k 0)) (h.0.before k (omega arith) less)) (λ less. not_from_true (is_byte2 a b (get_or s n 0)) h.1))

pub none_is : (a b : ℕ) (s : List ℕ) → IsFirstByte (is_byte2 a b) s None → skip (is_neither a b) s ≡ []
none_is a b s h = skip_is (is_neither a b) s ∙ ap (λ k. drop k s) (prefix_len_is (is_neither a b) s (length s) 0 (omega arith) (λ k less. not_true (is_byte2 a b (get_or s k 0)) (h k (omega arith) less)) (λ less. absurd (omega arith))) ∙ drop_all (length s) s (omega arith)

-- the slice of a text from a place on
pub rest_is : (text : List ℕ) (i : ℕ) → take (length text - i) (drop i text) ≡ drop i text
rest_is text i = take_all (length text - i) (drop i text) (omega (arith, length-drop i text))

pub skip_yes : (p : ℕ → Bool) (c : ℕ) (s : List ℕ) → p c ≡ true → skip p (c ∷ s) ≡ skip p s
skip_yes p c s h = rw h refl

pub skip_no : (p : ℕ → Bool) (c : ℕ) (s : List ℕ) → p c ≡ false → skip p (c ∷ s) ≡ c ∷ s
skip_no p c s h = rw h refl

pub skip_ends : (p : ℕ → Bool) (s : List ℕ) → starts p (skip p s) ≡ false
skip_ends p [] = refl
skip_ends p (c ∷ s) = elim (cases_Bool (p c)) [ inl h ↦ ap (starts p) (skip_yes p c s h) ∙ skip_ends p s | inr h ↦ ap (starts p) (skip_no p c s h) ∙ h ]
