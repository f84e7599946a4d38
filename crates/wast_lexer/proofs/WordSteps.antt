-- Steps of the scan of words.
use Rattle.std.proofs.Common.{◌≡◌, ◌≢◌, ℕ, ◌+◌, ◌<◌, ◌≤◌, Bool, true, false, ◌&&◌, inl, inr, List, [], ◌∷◌, length, take, drop, get_or, Option, None, Some, refl, ap, sym, ◌∙◌, arith}
use Rattle.std.specs.Prelude.{◌==◌, if◌then◌else◌, option_map, slice_range}
use Rattle.std.specs.List.{list_all}
use Rattle.std.proofs.lemmas.List.{drop_all, length-drop, drop-drop, drop_more}
use Rattle.std.proofs.lemmas.Bool.{cases_Bool, eqb-true}
use Rattle.std.proofs.lemmas.Bool.Decides.{nat_tests}
use Rattle.wast_lexer_strings.specs.Strings.{is_quote}
use Rattle.wast_lexer_strings.specs.StringScan.{Read, read, is_empty}
use Rattle.wast_lexer_strings.specs.StringScan.State.{Within}
use Rattle.wast_lexer.specs.Kinds.{starts, is_idchar, is_name, may_stand}
use Rattle.wast_lexer.specs.Tiling.{goes_on}
use Rattle.wast_lexer.specs.Scan.{after_word, is_whole, is_string, is_text_string, front, word_token, kind_of, next, skip}
use Rattle.std.proofs.str.Laws.{order}
use Rattle.wast_lexer.proofs.Basics.{apart}
use Rattle.wast_lexer.proofs.WordLaws.{word_behind, word_read, word_stops, word_sound}
use Rattle.wast_lexer.proofs.ScanLaws.{next_word}
use Rattle.wast_lexer.proofs.Searches.{skip_yes, skip_no, skip_ends}

neither_goes : (s : List ℕ) → starts is_idchar s ≡ false → starts is_quote s ≡ false → starts goes_on s ≡ false
neither_goes [] i q = refl
neither_goes (c ∷ s) i q = rw (i, q) refl

quote_cons : (s : List ℕ) → true ≡ starts is_quote s → 34 ∷ drop 1 s ≡ s
quote_cons [] h = absurd (cc)
quote_cons (c ∷ s) h = ap (λ (i : ℕ). i ∷ s) (sym (eqb-true c 34 (sym h)))

-- identifier characters are passed over
pub word_skip : (s : List ℕ) → after_word None s ≡ after_word None (skip is_idchar s)
word_skip [] = refl
word_skip (c ∷ s) = elim (cases_Bool (is_idchar c)) [
  | inl i ↦ (rw i refl) ∙ word_skip s ∙ sym (ap (after_word None) (skip_yes is_idchar c s i))
  | inr i ↦ sym (ap (after_word None) (skip_no is_idchar c s i))
]

-- one turn of the loop over the parts of a word
module _ (text : List ℕ) (start : Option (List ℕ)) (at to : ℕ) (so : start ≡ after_word None (drop at text)) (found : drop to text ≡ skip is_idchar (drop at text)) where
  pub part_here : start ≡ after_word None (drop to text)
  part_here = so ∙ word_skip (drop at text) ∙ sym (ap (after_word None) found)

  pub part_ends : false ≡ starts is_quote (drop to text) → start ≡ Some (drop to text)
  part_ends q = part_here ∙ word_stops (drop to text) (neither_goes (drop to text) (ap (starts is_idchar) found ∙ skip_ends is_idchar (drop at text)) (sym q))

  pub part_quote : true ≡ starts is_quote (drop to text) → start ≡ word_behind (read Within (drop (to + 1) text))
  part_quote q = part_here ∙ ap (after_word None) (sym (quote_cons (drop to text) q) ∙ ap (λ (y : List ℕ). 34 ∷ y) (drop-drop 1 to text)) ∙ word_read (drop (to + 1) text) Within

  pub part_string : true ≡ starts is_quote (drop to text) → (end : ℕ) (r : Read) → read Within (drop (to + 1) text) ≡ Some r → r.rest ≡ drop end text → start ≡ after_word None (drop end text)
  part_string q end r e rest = part_quote q ∙ ap word_behind e ∙ ap (after_word None) rest

-- a word, and what the scan makes of it
pub front_range : (text : List ℕ) (at end : ℕ) → at ≤ end → end ≤ length text → front (drop at text) (drop end text) ≡ slice_range text at end
front_range text at end low high = ap (λ n. take n (drop at text)) (omega (arith, length-drop at text, length-drop end text))

pub word_at : (allow opened : Bool) (text : List ℕ) (at end : ℕ) → at < length text → goes_on (get_or text at 0) ≡ true → at ≤ end → end ≤ length text → after_word None (drop at text) ≡ Some (drop end text)
    → next allow opened (drop at text) ≡ (if may_stand allow (slice_range text at end) then option_map (λ k. (k, drop end text)) (kind_of opened (slice_range text at end)) else None)
word_at allow opened text at end inside on low high h =
    ap (next allow opened) (drop_more text at 0 inside) ∙ next_word allow opened (get_or text at 0) (drop (at + 1) text) on
    ∙ ap (λ y. word_token allow opened y (after_word None y)) (sym (drop_more text at 0 inside)) ∙ ap (word_token allow opened (drop at text)) h
    ∙ ap (λ y. if may_stand allow y then option_map (λ k. (k, drop end text)) (kind_of opened y) else None) (front_range text at end low high)

pub word_fails : (allow opened : Bool) (text : List ℕ) (at : ℕ) → at < length text → goes_on (get_or text at 0) ≡ true → after_word None (drop at text) ≡ None → next allow opened (drop at text) ≡ None
word_fails allow opened text at inside on h =
    ap (next allow opened) (drop_more text at 0 inside) ∙ next_word allow opened (get_or text at 0) (drop (at + 1) text) on
    ∙ ap (λ y. word_token allow opened y (after_word None y)) (sym (drop_more text at 0 inside)) ∙ ap (word_token allow opened (drop at text)) h

pub word_moves : (text : List ℕ) (at end : ℕ) → at < length text → goes_on (get_or text at 0) ≡ true → at ≤ end → end ≤ length text → after_word None (drop at text) ≡ Some (drop end text) → at < end
word_moves text at end inside on low high h =
    let found = word_sound (length (drop at text)) (drop at text) (drop end text) (omega arith) h in
    let starts_on : starts goes_on (drop at text) ≡ true = ap (starts goes_on) (drop_more text at 0 inside) ∙ on in
    elim (order at end) [
      | inl less ↦ less
      | inr more ↦ (let same : at ≡ end = omega arith in absurd (apart found.3 (ap (λ i. starts goes_on (drop i text)) (sym same) ∙ starts_on)))
    ]

-- a string that is the whole word
pub string_is : (word : List ℕ) → 0 < length word → get_or word 0 0 ≡ 34 → is_string word ≡ is_whole (read Within (drop 1 word))
string_is [] some h = absurd (omega arith)
string_is (c ∷ word) some h = rw h refl

pub no_string : (word : List ℕ) → get_or word 0 0 ≢ 34 → (is_string word ≡ false) × (is_text_string word ≡ false)
no_string [] h = (refl, refl)
no_string (c ∷ word) h = let q : is_quote c ≡ false = grind (arith, nat_tests) in (rw q refl, rw q refl)

pub end_is : (word : List ℕ) (end : ℕ) → end ≤ length word → (end == length word) ≡ is_empty (drop end word)
end_is word end h = elim (order end (length word)) [
  | inl less ↦ (let isnt : (end == length word) ≡ false = grind (arith, nat_tests) in isnt ∙ sym (ap is_empty (drop_more word end 0 less)))
  | inr more ↦ (let is : (end == length word) ≡ true = grind (arith, nat_tests) in is ∙ sym (ap is_empty (drop_all end word more)))
]

skip_all : (p : ℕ → Bool) (s : List ℕ) → is_empty (skip p s) ≡ list_all p s
skip_all p [] = refl
skip_all p (c ∷ s) = elim (cases_Bool (p c)) [
  | inl h ↦ ap is_empty (skip_yes p c s h) ∙ skip_all p s ∙ sym (ap (λ b. b && list_all p s) h)
  | inr h ↦ ap is_empty (skip_no p c s h) ∙ sym (ap (λ b. b && list_all p s) h)
]

twice : (a b : Bool) → (a && (a && b)) ≡ (a && b)
twice true b = refl
twice false b = refl

some_name : (s : List ℕ) → 0 < length s → is_name s ≡ list_all is_idchar s
some_name [] h = absurd (omega arith)
some_name (c ∷ s) h = twice (is_idchar c) (list_all is_idchar s)

pub name_is : (word : List ℕ) (end : ℕ) → 0 < length word → end ≤ length word → drop end word ≡ skip is_idchar (drop 0 word) → (end == length word) ≡ is_name word
name_is word end some high h = end_is word end high ∙ ap is_empty h ∙ skip_all is_idchar word ∙ sym (some_name word some)

-- the ends of a scan of a word
module _ (allow opened : Bool) (text : List ℕ) (at end : ℕ) (inside : at < length text) (on : goes_on (get_or text at 0) ≡ true) (low : at ≤ end) (high : end ≤ length text) (h : after_word None (drop at text) ≡ Some (drop end text)) where
  pub word_dirty : false ≡ may_stand allow (slice_range text at end) → next allow opened (drop at text) ≡ None
  word_dirty d = word_at allow opened text at end inside on low high h ∙ ap (λ b. if b then option_map (λ k. (k, drop end text)) (kind_of opened (slice_range text at end)) else None) (sym d)

  pub word_clean : true ≡ may_stand allow (slice_range text at end) → next allow opened (drop at text) ≡ option_map (λ k. (k, drop end text)) (kind_of opened (slice_range text at end))
  word_clean d = word_at allow opened text at end inside on low high h ∙ ap (λ b. if b then option_map (λ k. (k, drop end text)) (kind_of opened (slice_range text at end)) else None) (sym d)
