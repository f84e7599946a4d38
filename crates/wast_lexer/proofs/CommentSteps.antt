-- Steps of the scan of comments.
use Rattle.std.proofs.Common.{◌≡◌, ◌≢◌, ◌-◌, ℕ, ◌+◌, ◌<◌, ◌≤◌, Bool, true, false, inl, inr, List, [], ◌∷◌, length, drop, get_or, Option, None, Some, refl, ap, sym, ◌∙◌, arith}
use Rattle.std.specs.Prelude.{◌==◌}
use Rattle.std.proofs.lemmas.List.{drop_all, length-drop, drop-drop, drop_more}
use Rattle.std.proofs.lemmas.Bool.{cases_Bool, and_parts, eqb-true}
use Rattle.std.proofs.lemmas.Bool.Decides.{nat_tests}
use Rattle.wast_lexer.specs.declared.token.TokenKind.TheVariants.{LineComment, BlockComment}
use Rattle.wast_lexer.specs.Kinds.{starts, is_semicolon}
use Rattle.wast_lexer.specs.Scan.{next, comment, skip, close, starts_pair, is_neither}
use Rattle.wast_lexer.proofs.CommentLaws.{close_byte}
use Rattle.wast_lexer.proofs.Searches.{neither_at}

-- two bytes that come next
starts_is : (a b : ℕ) (s : List ℕ) → starts_pair a b s ≡ true → (rest : List ℕ) × (s ≡ a ∷ b ∷ rest)
starts_is a b [] h = absurd (cc)
starts_is a b (c ∷ []) h = absurd (cc)
starts_is a b (c ∷ d ∷ s) h =
    let both = and_parts (c == a) (d == b) h in
    let first : c ≡ a = eqb-true c a both.0 in
    let second : d ≡ b = eqb-true d b both.1 in (s, cc)

pub pair_here : (a b : ℕ) (text : List ℕ) (i : ℕ) → i ≤ length text → starts_pair a b (drop i text) ≡ true → (i + 1 < length text) × (drop i text ≡ a ∷ b ∷ drop (i + 2) text)
pair_here a b text i low h =
    let found = starts_is a b (drop i text) h in
    let more : drop (i + 2) text ≡ found.0 = sym (drop-drop 2 i text) ∙ ap (drop 2) found.1 in
    (omega (arith, length-drop i text, ap length found.1), rw more found.1)

-- what is neither `(` nor `;` is passed over
pub close_skip : (d : ℕ) (s : List ℕ) → close d s ≡ close d (skip (is_neither 40 59) s)
close_skip d [] = refl
close_skip d (c ∷ s) = elim (cases_Bool (is_neither 40 59 c)) [
  | inl t ↦ rw t (close_byte d c s (λ e. absurd (neither_at 40 59 c t (inl e))) (λ e. absurd (neither_at 40 59 c t (inr e))) ∙ close_skip d s)
  | inr t ↦ rw t refl
]

close_no : (d c : ℕ) (s : List ℕ) → starts_pair 40 59 (c ∷ s) ≡ false → starts_pair 59 41 (c ∷ s) ≡ false → close d (c ∷ s) ≡ close d s
close_no d c [] o e = refl
close_no d c (b ∷ s) o e = rw (o, e) refl

pub close_other : (d : ℕ) (text : List ℕ) (i : ℕ) → i < length text → starts_pair 40 59 (drop i text) ≡ false → starts_pair 59 41 (drop i text) ≡ false → close d (drop i text) ≡ close d (drop (i + 1) text)
close_other d text i h o e = rw (drop_more text i 0 h) (close_no d (get_or text i 0) (drop (i + 1) text) (rw (drop_more text i 0 h) at o) (rw (drop_more text i 0 h) at e))

pub close_deep : (d : ℕ) (s : List ℕ) → d ≢ 0 → close d (59 ∷ 41 ∷ s) ≡ close (d - 1) s
close_deep d s h = let n : (d == 0) ≡ false = grind (arith, nat_tests) in rw n refl

-- one turn of the loop over levels: `so` is what the loop knows at its start, and `found` where the next `(` or `;` is
module _ (text : List ℕ) (start : Option (List ℕ)) (d at to : ℕ) (so : start ≡ close d (drop at text)) (found : drop to text ≡ skip (is_neither 40 59) (drop at text)) (high : to ≤ length text) where
  pub turn_here : start ≡ close d (drop to text)
  turn_here = so ∙ close_skip d (drop at text) ∙ sym (ap (close d) found)

  pub turn_open : true ≡ starts_pair 40 59 (drop to text) → (to + 1 < length text) × (start ≡ close (d + 1) (drop (to + 2) text))
  turn_open h = let here = pair_here 40 59 text to high (sym h) in (here.0, turn_here ∙ ap (close d) here.1)

  pub turn_deep : true ≡ starts_pair 59 41 (drop to text) → d ≢ 0 → (to + 1 < length text) × (start ≡ close (d - 1) (drop (to + 2) text))
  turn_deep h n = let here = pair_here 59 41 text to high (sym h) in (here.0, turn_here ∙ ap (close d) here.1 ∙ close_deep d (drop (to + 2) text) n)

  pub turn_last : true ≡ starts_pair 59 41 (drop to text) → d ≡ 0 → (to + 1 < length text) × (start ≡ Some (drop (to + 2) text))
  turn_last h n = let here = pair_here 59 41 text to high (sym h) in (here.0, turn_here ∙ ap (close d) here.1 ∙ ap (λ k. close k (59 ∷ 41 ∷ drop (to + 2) text)) n)

  pub turn_other : to < length text → false ≡ starts_pair 40 59 (drop to text) → false ≡ starts_pair 59 41 (drop to text) → start ≡ close d (drop (to + 1) text)
  turn_other low o e = turn_here ∙ close_other d text to low (sym o) (sym e)

pub close_past : (start : Option (List ℕ)) (d at : ℕ) (text : List ℕ) → start ≡ close d (drop at text) → length text ≤ at → start ≡ None
close_past start d at text so h = so ∙ ap (close d) (drop_all at text h)

starts_cons : (s : List ℕ) → true ≡ starts is_semicolon s → 59 ∷ drop 1 s ≡ s
starts_cons [] h = absurd (cc)
starts_cons (c ∷ s) h = ap (λ (i : ℕ). i ∷ s) (sym (eqb-true c 59 (sym h)))

-- two bytes that begin a comment
pub pair_at : (n : ℕ) (text : List ℕ) (at : ℕ) → at < length text → get_or text at 0 ≡ n → true ≡ starts is_semicolon (drop (at + 1) text) → drop at text ≡ n ∷ 59 ∷ drop (at + 2) text
pair_at n text at h here more =
    let two : drop 1 (drop (at + 1) text) ≡ drop (at + 2) text = drop-drop 1 (at + 1) text ∙ ap (λ i. drop i text) (omega arith) in
    drop_more text at 0 h ∙ ap (λ (i : ℕ). i ∷ drop (at + 1) text) here ∙ ap (λ (y : List ℕ). n ∷ y) (sym (starts_cons (drop (at + 1) text) more) ∙ ap (λ (y : List ℕ). 59 ∷ y) two)

pub next_block : (allow opened : Bool) (text : List ℕ) (at : ℕ) → at < length text → get_or text at 0 ≡ 40 → true ≡ starts is_semicolon (drop (at + 1) text) → next allow opened (drop at text) ≡ comment allow BlockComment (drop at text) (close 0 (drop (at + 2) text))
next_block allow opened text at h here more = let e = pair_at 40 text at h here more in ap (next allow opened) e ∙ ap (λ y. comment allow BlockComment y (close 0 (drop (at + 2) text))) (sym e)

pub next_line : (allow opened : Bool) (text : List ℕ) (at : ℕ) → at < length text → get_or text at 0 ≡ 59 → true ≡ starts is_semicolon (drop (at + 1) text) → next allow opened (drop at text) ≡ comment allow LineComment (drop at text) (Some (skip (is_neither 10 13) (drop (at + 2) text)))
next_line allow opened text at h here more = let e = pair_at 59 text at h here more in ap (next allow opened) e ∙ ap (λ y. comment allow LineComment y (Some (skip (is_neither 10 13) (drop (at + 2) text)))) (sym e)
