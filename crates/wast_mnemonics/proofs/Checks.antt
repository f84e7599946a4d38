-- A test of texts that the check computes, and what it shows.
use Rattle.std.proofs.Common.{◌≡◌, Bool, true, false, List, [], ◌∷◌, ℕ, Option, refl, sym, ◌∙◌, ap, cond, is_some, slice_get, true≢false}
use Rattle.std.specs.Cmp.Lexicographic.{bytes_decides}
use Rattle.wast_grammar.specs.Spelling.{same_text, any_is}
use Rattle.wast_mnemonics.specs.Rows.{row_number, word_in}
use Rattle.wast_mnemonics.specs.declared.table.TheConstants.{WORDS}
use Rattle.wast_mnemonics.specs.declared.word.Word.{Word}

-- the word of the row where a text is looked for
abbrev pub word_at : List ℕ → Option Word
word_at t = word_in t (slice_get WORDS (row_number t))

-- each of these texts has a word there
unfoldable pub all_placed : List (List ℕ) → Bool
all_placed [] = true
all_placed (u ∷ us) = elim (is_some (word_at u)) [ true ↦ all_placed us | false ↦ false ]

both-step : (b : Bool) (r : Bool) → elim b [ true ↦ r | false ↦ false ] ≡ true → (b ≡ true) × (r ≡ true)
both-step true r h = (refl, h)
both-step false r h = absurd (true≢false (sym h))

neither : (c r : Bool) → (c ≡ true → ⊥) → r ≡ false → cond c true r ≡ false
neither true r n e = absurd (n refl)
neither false r n e = e

-- a text that has none is none of them
pub not_placed : (us : List (List ℕ)) (t : List ℕ) → all_placed us ≡ true → is_some (word_at t) ≡ false → any_is t us ≡ false
unfolding all_placed
not_placed [] t h n = refl
not_placed (u ∷ us) t h n =
    let step = both-step (is_some (word_at u)) (all_placed us) h in
    neither (same_text t u) (any_is t us) (λ q. true≢false (sym step.0 ∙ ap (λ v. is_some (word_at v)) (sym ((bytes_decides t u).0 q)) ∙ n)) (not_placed us t step.1 n)
