-- What a parser has before it, token by token and group by group.
use Rattle.std.proofs.Common.{◌≡◌, ℕ, suc, ◌+◌, true, false, cond, List, [], ◌∷◌, ◌++◌, Option, Some, None, length, map, take, drop, refl, sym, ◌∙◌, ap, add-one, arith, inl, inr}
use Rattle.std.specs.Prelude.{slice_get, is_some}
use Rattle.std.proofs.Math.Seq.{drop-cons}
use Rattle.std.proofs.lemmas.List.{drop_all, drop-map, drop-drop, take-append-drop, length-take-le, length-map}
use Rattle.std.proofs.lemmas.Option.{slice_get_within, slice_get_cases, get_or_from_slice_get}
use Rattle.std.proofs.lemmas.Bool.{and_from}
use Rattle.wast_lexer.specs.declared.token.Token.{Token}
use Rattle.wast_lexer.specs.declared.token.TokenKind.TheVariants as kinds
use Rattle.wast_lexer.specs.declared.fault.LexFault.{LexFault}
use Rattle.wast_lexer.specs.Groups.{IsGroupAt, paren_of, parens}
use Rattle.wast_lexer.specs.ParenEnds.{closing}
use Rattle.wast_lexer.specs.Lexeme.{Lexeme, lexeme_of}
use Rattle.wast_lexer.specs.TokenText.{text_of}
use Rattle.wast_lexer.proofs.Basics.{cases_option}
use Rattle.wast_lexer.proofs.ParenEndLaws.{groups}
use Rattle.wast_grammar.specs.Tokens.{Broken}
use Rattle.wast_grammar.specs.Significant.{token_of, is_trivia, is_lparen, begins_unknown, opens_dropped, at_end, shown}
use Rattle.wast_grammar.proofs.SignificantLaws.{trivia_none, trivia_opens, after, passed}
use Rattle.wast_parser_core.specs.State.{State, ahead}

-- LISTS
pub cell : {X : Type 0} (xs : List X) (i : ℕ) (x : X) → slice_get xs i ≡ Some x → drop i xs ≡ x ∷ drop (i + 1) xs
cell xs i x h =
    drop-cons xs i x (slice_get_within xs i x h)
    ∙ ap (λ y. y ∷ drop (suc i) xs) (get_or_from_slice_get xs i x x h)
    ∙ ap (λ k. x ∷ drop k xs) (sym (add-one i))

pub past_end : {X : Type 0} (xs : List X) (i : ℕ) → slice_get xs i ≡ None → drop i xs ≡ []
past_end xs i h = elim (slice_get_cases xs i).1 [
  | inl s ↦ (let e : None ≡ Some s.0 = sym h ∙ s.2 in absurd (cc))
  | inr l ↦ drop_all i xs l.0
]

seam : {X : Type 0} (a : List X) (p : X) (b : List X) → drop (length a + 1) (a ++ p ∷ b) ≡ b
seam [] p b = refl
seam (x ∷ a) p b = let n : length (x ∷ a) + 1 ≡ suc (length a + 1) = omega arith in ap (λ i. drop i (x ∷ (a ++ p ∷ b))) n ∙ seam a p b

-- GROUPS
lexeme_parens : (text : List ℕ) (ts : List Token) → map (λ l. paren_of l.kind) (map (lexeme_of text) ts) ≡ parens ts
lexeme_parens text [] = refl
lexeme_parens text (t ∷ ts) = ap (λ y. paren_of t.kind ∷ y) (lexeme_parens text ts)

-- the parentheses behind a token
pub behind_it : (text : List ℕ) (ts : List Token) (i : ℕ) → map (λ l. paren_of l.kind) (map (lexeme_of text) (drop (i + 1) ts)) ≡ drop (i + 1) (parens ts)
behind_it text ts i = lexeme_parens text (drop (i + 1) ts) ∙ sym (drop-map (λ t. paren_of t.kind) (i + 1) ts)

pub group_closes : (ts : List Token) (i end : ℕ) → IsGroupAt (parens ts) i end → (n : ℕ) × (closing 0 (drop (i + 1) (parens ts)) ≡ Some n) × (end ≡ i + 1 + n)
group_closes ts i end g =
    let n : i + 1 ≡ length g.front + 1 = omega (arith, g.index_is) in
    let tail = ap (drop (i + 1)) g.split ∙ ap (λ k. drop k (g.front ++ paren_of kinds.LParen ∷ (g.inner ++ paren_of kinds.RParen ∷ g.rest))) n ∙ seam g.front (paren_of kinds.LParen) (g.inner ++ paren_of kinds.RParen ∷ g.rest) in
    (length g.inner, (groups (drop (i + 1) (parens ts)) (length g.inner)).1 (g.inner, g.rest, g.balanced, tail, refl), g.end_is)

group_open : (ts : List Token) (i : ℕ) (t : Token) → slice_get ts i ≡ Some t → t.kind ≡ kinds.LParen → ((end : ℕ) → ¬ IsGroupAt (parens ts) i end) → closing 0 (drop (i + 1) (parens ts)) ≡ None
group_open ts i t got is none = elim (cases_option (closing 0 (drop (i + 1) (parens ts)))) [
  | inl h ↦ h
  | inr s ↦
      let g = (groups (drop (i + 1) (parens ts)) s.0).0 s.1 in
      let inside = slice_get_within ts i t got in
      let here = drop-map (λ t. paren_of t.kind) i ts ∙ ap parens (cell ts i t got) ∙ ap (λ k. paren_of k ∷ parens (drop (i + 1) ts)) is ∙ ap (λ y. paren_of kinds.LParen ∷ y) (sym (drop-map (λ t. paren_of t.kind) (i + 1) ts) ∙ g.3) in
      let l = length-map ts (λ t. paren_of t.kind) in
      absurd (none (i + 1 + s.0) (record {
        front = take i (parens ts);
        inner = g.0;
        rest = g.1;
        balanced = g.2;
        split = sym (take-append-drop i (parens ts)) ∙ ap (λ y. take i (parens ts) ++ y) here;
        index_is = sym (length-take-le i (parens ts) (omega (arith, inside, l)));
        end_is = omega (arith, g.4);
      }))
]

-- WHAT STANDS AT AN INDEX
abbrev pub lexemes : State → ℕ → List Lexeme
lexemes s i = map (lexeme_of s.source.text) (drop i s.source.tokens)

pub lexemes_more : (s : State) (i : ℕ) (t : Token) → slice_get s.source.tokens i ≡ Some t → lexemes s i ≡ lexeme_of s.source.text t ∷ lexemes s (i + 1)
lexemes_more s i t got = ap (map (lexeme_of s.source.text)) (cell s.source.tokens i t got)

ahead_dropped : (s : State) (i : ℕ) (t : Token) → slice_get s.source.tokens i ≡ Some t → t.kind ≡ kinds.LParen → begins_unknown s.names (lexemes s (i + 1)) ≡ true →
    ahead (record s { at = i }) ≡ after s.names (is_some s.source.fault) (lexemes s (i + 1)) (closing 0 (drop (i + 1) (parens s.source.tokens)))
ahead_dropped s i t got is d =
    let names = s.names in
    let broken = is_some s.source.fault in
    let ls = lexemes s (i + 1) in
    let l = lexeme_of s.source.text t in
    ap (shown names broken 0) (lexemes_more s i t got)
    ∙ ap (λ b. cond b (shown names broken 1 ls) (token_of l.kind l.text l.place ++ shown names broken 0 ls)) (and_from (is_lparen t.kind) (begins_unknown names ls) (ap is_lparen is) d)
    ∙ passed names broken 0 ls
    ∙ ap (λ y. after names broken ls (closing 0 y)) (behind_it s.source.text s.source.tokens i)

-- a group that is dropped
pub ahead_group : (s : State) (i end : ℕ) (t : Token) → slice_get s.source.tokens i ≡ Some t → t.kind ≡ kinds.LParen → begins_unknown s.names (lexemes s (i + 1)) ≡ true → IsGroupAt (parens s.source.tokens) i end →
    ahead (record s { at = i }) ≡ ahead (record s { at = end + 1 })
ahead_group s i end t got is d g =
    let names = s.names in
    let broken = is_some s.source.fault in
    let c = group_closes s.source.tokens i end g in
    let k : i + 1 + suc c.0 ≡ end + 1 = omega (arith, c.2) in
    ahead_dropped s i t got is d
    ∙ ap (after names broken (lexemes s (i + 1))) c.1
    ∙ ap (shown names broken 0) (drop-map (lexeme_of s.source.text) (suc c.0) (drop (i + 1) s.source.tokens) ∙ ap (map (lexeme_of s.source.text)) (drop-drop (suc c.0) (i + 1) s.source.tokens))
    ∙ ap (λ k. shown names broken 0 (lexemes s k)) k

-- one that isn't closed
pub ahead_open : (s : State) (i : ℕ) (t : Token) → slice_get s.source.tokens i ≡ Some t → t.kind ≡ kinds.LParen → begins_unknown s.names (lexemes s (i + 1)) ≡ true → ((end : ℕ) → ¬ IsGroupAt (parens s.source.tokens) i end) →
    ahead (record s { at = i }) ≡ Broken ∷ []
ahead_open s i t got is d none =
    ahead_dropped s i t got is d ∙ ap (after s.names (is_some s.source.fault) (lexemes s (i + 1))) (group_open s.source.tokens i t got is none)

-- a token that opens no such group
pub ahead_seen : (s : State) (i : ℕ) (t : Token) → slice_get s.source.tokens i ≡ Some t → opens_dropped s.names (lexeme_of s.source.text t) (lexemes s (i + 1)) ≡ false →
    ahead (record s { at = i }) ≡ token_of t.kind (text_of s.source.text t) t.offset ++ ahead (record s { at = i + 1 })
ahead_seen s i t got kept =
    let names = s.names in
    let broken = is_some s.source.fault in
    let ls = lexemes s (i + 1) in
    let l = lexeme_of s.source.text t in
    ap (shown names broken 0) (lexemes_more s i t got)
    ∙ ap (λ b. cond b (shown names broken 1 ls) (token_of l.kind l.text l.place ++ shown names broken 0 ls)) kept

-- white space and comments
pub ahead_trivia : (s : State) (i : ℕ) (t : Token) → slice_get s.source.tokens i ≡ Some t → is_trivia t.kind ≡ true → ahead (record s { at = i }) ≡ ahead (record s { at = i + 1 })
ahead_trivia s i t got is =
    ahead_seen s i t got (trivia_opens t.kind (begins_unknown s.names (lexemes s (i + 1))) is)
    ∙ ap (λ y. y ++ ahead (record s { at = i + 1 })) (trivia_none t.kind (text_of s.source.text t) t.offset is)

-- no token
pub ahead_end : (s : State) (i : ℕ) → slice_get s.source.tokens i ≡ None → ahead (record s { at = i }) ≡ at_end (is_some s.source.fault)
ahead_end s i none = ap (λ y. shown s.names (is_some s.source.fault) 0 (map (lexeme_of s.source.text) y)) (past_end s.source.tokens i none)

pub end_broken : (f : Option LexFault) → is_some f ≡ true → at_end (is_some f) ≡ Broken ∷ []
end_broken f h = ap at_end h

pub end_whole : (f : Option LexFault) → is_some f ≡ false → at_end (is_some f) ≡ []
end_whole f h = ap at_end h
