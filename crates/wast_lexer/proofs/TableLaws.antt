-- What a table of tokens rests on.
use Rattle.std.proofs.Common.{◌≡◌, ◌≢◌, ℕ, suc, ◌+◌, ◌-◌, ◌<◌, ◌≤◌, Bool, true, false, List, [], ◌∷◌, ◌++◌, length, drop, get_or, map, refl, sym, ◌∙◌, ap, subst, arith}
use Rattle.std.specs.Prelude.{slice_range, nat_lt}
use Rattle.std.proofs.lemmas.List.{get_or-drop, length-drop, length-take-le, map-append, get_or_append_left}
use Rattle.std.proofs.lemmas.Bool.Decides.{nat_tests}
use Rattle.std.proofs.lemmas.List.Folds.{drop_split}
use Rattle.wast_lexer.specs.declared.token.Token.{Token}
use Rattle.wast_lexer.specs.Kinds.{is_open}
use Rattle.wast_lexer.specs.Lexeme.{Lexeme, lexeme_of}
use Rattle.wast_lexer.specs.Tiling.{Begins, Tiles, TilesUpTo, ends}
use Rattle.wast_lexer.specs.Parse.{is_opened, IsTokenAt}
use Rattle.wast_lexer.proofs.Cuts.{length_some}

-- one token more
pub tiles_more : (allow opened : Bool) (from : ℕ) (text : List ℕ) (ts : List Lexeme) (opens : Bool) (to : ℕ) (follows : List ℕ) (t : Lexeme) (rest : List ℕ)
    → TilesUpTo allow opened from text ts opens to follows → t.place ≡ to → follows ≡ t.text ++ rest → Begins allow opens t.kind t.text rest
    → TilesUpTo allow opened from text (ts ++ t ∷ []) (ends is_open t.text) (to + length t.text) rest
tiles_more allow opened from text [] opens to follows t rest s place split b =
    (rest, place ∙ sym s.0, s.2 ∙ split, subst (λ o. Begins allow o t.kind t.text rest) (sym s.1) b, (ap (λ n. n + length t.text) s.0, refl, refl))
tiles_more allow opened from text (x ∷ ts) opens to follows t rest s place split b =
    (s.0, s.1, s.2, s.3, tiles_more allow (ends is_open x.text) (from + length x.text) s.0 ts opens to follows t rest s.4 place split b)

-- nothing follows
pub tiles_all : (allow opened : Bool) (from : ℕ) (text : List ℕ) (ts : List Lexeme) (opens : Bool) (to : ℕ) → TilesUpTo allow opened from text ts opens to [] → Tiles allow opened from text ts
tiles_all allow opened from text [] opens to s = s.2
tiles_all allow opened from text (x ∷ ts) opens to s = (s.0, s.1, s.2, s.3, tiles_all allow (ends is_open x.text) (from + length x.text) s.0 ts opens to s.4)

ends_last : (p : ℕ → Bool) (w : List ℕ) → w ≢ [] → ends p w ≡ p (get_or w (length w - 1) 0)
ends_last p [] some = absurd (some refl)
ends_last p (c ∷ []) some = refl
ends_last p (c ∷ d ∷ w) some = ends_last p (d ∷ w) (λ e. cc) ∙ (let n : length (c ∷ d ∷ w) - 1 ≡ suc (length (d ∷ w) - 1) = omega arith in ap (λ i. p (get_or (c ∷ d ∷ w) i 0)) (sym n))

pub range_length : (text : List ℕ) (from to : ℕ) → from ≤ to → to ≤ length text → length (slice_range text from to) ≡ to - from
range_length text from to low high = length-take-le (to - from) (drop from text) (omega (arith, length-drop from text))

-- what stands before the end of a word
pub opened_is : (text : List ℕ) (from to : ℕ) → from < to → to ≤ length text → is_opened text to ≡ ends is_open (slice_range text from to)
opened_is text from to low high =
    let w = slice_range text from to in
    let size = range_length text from to (omega (arith, low)) high in
    let some : w ≢ [] = λ none. (let l = ap length none in omega (arith, size, l, low)) in
    let pos : nat_lt 0 to ≡ true = grind (arith, nat_tests) in
    let last : get_or text (to - 1) 0 ≡ get_or w (length w - 1) 0 =
    (let n : to - 1 ≡ from + (length w - 1) = omega (arith, size, low) in ap (λ i. get_or text i 0) n)
    ∙ sym (get_or-drop from text (length w - 1) 0) ∙ ap (λ y. get_or y (length w - 1) 0) (drop_split text from to (omega (arith, low))) ∙ get_or_append_left w (drop to text) 0 (length w - 1) (omega (arith, size, low)) in
    rw pos (ap is_open last ∙ sym (ends_last is_open w some))

-- the loop reads one token more
pub table_more : (allow : Bool) (text : List ℕ) (tokens : List Token) (from to : ℕ) (t : Token)
    → TilesUpTo allow false 0 text (map (lexeme_of text) tokens) (is_opened text from) from (drop from text) → IsTokenAt allow text from to t
    → TilesUpTo allow false 0 text (map (lexeme_of text) (tokens ++ t ∷ [])) (is_opened text to) to (drop to text)
table_more allow text tokens from to t s is =
    let end : t.offset + t.len ≡ to = omega (arith, is.place, is.len) in
    let l : Lexeme = lexeme_of text t in
    let word : l.text ≡ slice_range text from to = ap (λ n. slice_range text n (t.offset + t.len)) is.place ∙ ap (slice_range text from) end in
    let low : from ≤ to = omega (arith, is.len) in
    let size = range_length text from to low is.within in
    let less : from < to = grow is.begins.nonempty size low in
    let more = tiles_more allow false 0 text (map (lexeme_of text) tokens) (is_opened text from) from (drop from text) l (drop to text) s is.place
    (drop_split text from to low ∙ ap (λ y. y ++ drop to text) (sym word)) (subst (λ y. Begins allow (is_opened text from) t.kind y (drop to text)) (sym word) is.begins) in
    let opens : ends is_open l.text ≡ is_opened text to = ap (ends is_open) word ∙ sym (opened_is text from to less is.within) in
    let place : from + length l.text ≡ to = omega (arith, ap length word, size, low) in
    subst (λ ts. TilesUpTo allow false 0 text ts (is_opened text to) to (drop to text)) (sym (map-append (lexeme_of text) tokens (t ∷ [])))
    (subst (λ n. TilesUpTo allow false 0 text (map (lexeme_of text) tokens ++ l ∷ []) (is_opened text to) n (drop to text)) place
    (subst (λ o. TilesUpTo allow false 0 text (map (lexeme_of text) tokens ++ l ∷ []) o (from + length l.text) (drop to text)) opens more))
  where
    grow : slice_range text from to ≢ [] → length (slice_range text from to) ≡ to - from → from ≤ to → from < to
    grow some size low = let l = length_some (slice_range text from to) some in omega (arith, l, size)

pub token_moves : (allow : Bool) (text : List ℕ) (from to : ℕ) (t : Token) → IsTokenAt allow text from to t → from < to
token_moves allow text from to t is =
    let low : from ≤ to = omega (arith, is.len) in
    let l = length_some (slice_range text from to) is.begins.nonempty in
    omega (arith, l, range_length text from to low is.within)
