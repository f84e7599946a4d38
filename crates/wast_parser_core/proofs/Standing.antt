-- How a parser stands, token by token and group by group.
use Rattle.std.proofs.Common.{◌≡◌, ◌⊎◌, inl, inr, ℕ, zero, suc, ◌+◌, ◌≤◌, ◌<◌, true, false, cond, List, [], ◌∷◌, Option, Some, None, length, map, drop, refl, sym, ◌∙◌, ap, subst, add-one, arith}
use Rattle.std.specs.Prelude.{slice_get}
use Rattle.std.proofs.lemmas.List.{drop-map, length-map}
use Rattle.std.proofs.lemmas.Option.{slice_get_within}
use Rattle.std.proofs.lemmas.Bool.{and_from}
use Rattle.wast_lexer.specs.declared.token.Token.{Token}
use Rattle.wast_lexer.specs.declared.token.TokenKind.{TokenKind}
use Rattle.wast_lexer.specs.declared.token.TokenKind.TheVariants as kinds
use Rattle.wast_lexer.specs.Groups.{IsGroupAt, paren_of, parens}
use Rattle.wast_lexer.specs.ParenEnds.{closing, one_more}
use Rattle.wast_lexer.specs.Lexeme.{Lexeme, lexeme_of}
use Rattle.wast_grammar.specs.Significant.{is_trivia, is_lparen, begins_unknown, opens_dropped, behind}
use Rattle.wast_grammar.proofs.SignificantLaws.{trivia_opens}
use Rattle.wast_parser_core.specs.Standing.{Standing, Behind, Past, Within, is_outside, open_still, outside, further, stand, slack_of}
use Rattle.wast_parser_core.specs.State.{Source, State, standing, slack, Keeps}
use Rattle.wast_parser_core.proofs.Ahead.{lexemes, lexemes_more, group_closes, behind_it}

-- AMONG LEXEMES
module _ (names : List (List ℕ)) where
  nothing_more : (k : ℕ) → stand names k Past [] ≡ Past
  nothing_more zero = refl
  nothing_more (suc k) = refl

  on_from : (i k : ℕ) (p : Standing) (ls : List Lexeme) → stand names (i + k) p ls ≡ stand names k (stand names i p ls) (drop i ls)
  on_from zero k p ls = let e : 0 + k ≡ k = omega arith in ap (λ n. stand names n p ls) e
  on_from (suc i) k p [] = (let e : suc i + k ≡ suc (i + k) = omega arith in ap (λ n. stand names n p []) e) ∙ sym (nothing_more k)
  on_from (suc i) k p (l ∷ ls) = let e : suc i + k ≡ suc (i + k) = omega arith in ap (λ n. stand names n p (l ∷ ls)) e ∙ on_from i k (further names l ls p) ls

  -- beyond the last
  beyond : (n : ℕ) (p : Standing) (ls : List Lexeme) → length ls < n → stand names n p ls ≡ Past
  beyond zero p ls h = absurd (omega (arith, h))
  beyond (suc n) p [] h = refl
  beyond (suc n) p (l ∷ ls) h = let e : length (l ∷ ls) ≡ suc (length ls) = refl in beyond n (further names l ls p) ls (omega (arith, h, e))

  from_outside : (p : Standing) (l : Lexeme) (ls : List Lexeme) → is_outside p ≡ true → further names l ls p ≡ outside names l ls
  from_outside Behind l ls h = refl
  from_outside Past l ls h = refl
  from_outside (Within d) l ls h = absurd (cc)

  one_less : (o : Option ℕ) (n : ℕ) → one_more o ≡ Some n → (m : ℕ) × (o ≡ Some m) × (suc m ≡ n)
  one_less None n h = absurd (cc)
  one_less (Some m) n h = let e : m + 1 ≡ n = cc in (m, refl, omega (arith, e))

  abbrev Closes : List Lexeme → Type 0
  Closes ls = (d n : ℕ) → closing d (map (λ l. paren_of l.kind) ls) ≡ Some n → stand names (suc n) (Within d) ls ≡ Past

  still : (d n : ℕ) (ls : List Lexeme) → Closes ls → one_more (closing d (map (λ l. paren_of l.kind) ls)) ≡ Some n → stand names n (Within d) ls ≡ Past
  still d n ls ih h =
      let m = one_less (closing d (map (λ l. paren_of l.kind) ls)) n h in
      ap (λ k. stand names k (Within d) ls) (sym m.2) ∙ ih d m.0 m.1

  turn : (k : TokenKind) (d n : ℕ) (ls : List Lexeme) → Closes ls → closing d (paren_of k ∷ map (λ l. paren_of l.kind) ls) ≡ Some n → stand names n (open_still (behind k d)) ls ≡ Past
  turn kinds.LParen d n ls ih h = let e : d + 1 ≡ suc d = add-one d in still (suc d) n ls ih (ap (λ k. one_more (closing k (map (λ l. paren_of l.kind) ls))) (sym e) ∙ h)
  turn kinds.RParen zero n ls ih h = let e : 0 ≡ n = cc in ap (λ k. stand names k Past ls) (sym e)
  turn kinds.RParen (suc d) n ls ih h = still d n ls ih h
  turn kinds.Whitespace d n ls ih h = still d n ls ih h
  turn kinds.LineComment d n ls ih h = still d n ls ih h
  turn kinds.BlockComment d n ls ih h = still d n ls ih h
  turn kinds.String d n ls ih h = still d n ls ih h
  turn kinds.Id d n ls ih h = still d n ls ih h
  turn kinds.Keyword d n ls ih h = still d n ls ih h
  turn kinds.Annotation d n ls ih h = still d n ls ih h
  turn kinds.Reserved d n ls ih h = still d n ls ih h
  turn (kinds.Integer k) d n ls ih h = still d n ls ih h
  turn (kinds.Float k) d n ls ih h = still d n ls ih h

  -- behind the parenthesis that ends so many groups and one
  closed : (ls : List Lexeme) → Closes ls
  closed [] d n h = absurd (cc)
  closed (l ∷ ls) d n h = turn l.kind d n ls (closed ls) h

-- AT AN INDEX
abbrev pub at_index : State → ℕ → Standing
at_index s i = standing (record s { at = i })

next_index : (s : State) (i : ℕ) (t : Token) → slice_get s.source.tokens i ≡ Some t → at_index s (i + 1) ≡ further s.names (lexeme_of s.source.text t) (lexemes s (i + 1)) (at_index s i)
next_index s i t got =
    let lex = lexeme_of s.source.text in
    on_from s.names i 1 Behind (map lex s.source.tokens)
    ∙ ap (stand s.names 1 (at_index s i)) (drop-map lex i s.source.tokens ∙ lexemes_more s i t got)

pub past_trivia : (s : State) (i : ℕ) (t : Token) → slice_get s.source.tokens i ≡ Some t → is_trivia t.kind ≡ true → is_outside (at_index s i) ≡ true → is_outside (at_index s (i + 1)) ≡ true
past_trivia s i t got is o =
    let ls = lexemes s (i + 1) in
    let l = lexeme_of s.source.text t in
    ap is_outside (next_index s i t got ∙ from_outside s.names (at_index s i) l ls o)
    ∙ ap (λ b. is_outside (cond b (Within 0) (cond (is_trivia t.kind) Past Behind))) (trivia_opens t.kind (begins_unknown s.names ls) is)
    ∙ ap (λ b. is_outside (cond b Past Behind)) is

pub past_group : (s : State) (i end : ℕ) (t : Token) → slice_get s.source.tokens i ≡ Some t → t.kind ≡ kinds.LParen → begins_unknown s.names (lexemes s (i + 1)) ≡ true → IsGroupAt (parens s.source.tokens) i end →
    is_outside (at_index s i) ≡ true → is_outside (at_index s (end + 1)) ≡ true
past_group s i end t got is d g o =
    let lex = lexeme_of s.source.text in
    let ls = lexemes s (i + 1) in
    let c = group_closes s.source.tokens i end g in
    let k : end + 1 ≡ i + 1 + suc c.0 = omega (arith, c.2) in
    let within : at_index s (i + 1) ≡ Within 0 =
    next_index s i t got
    ∙ from_outside s.names (at_index s i) (lex t) ls o
    ∙ ap (λ b. cond b (Within 0) (cond (is_trivia t.kind) Past Behind)) (and_from (is_lparen t.kind) (begins_unknown s.names ls) (ap is_lparen is) d) in
    ap is_outside (
    ap (at_index s) k
    ∙ on_from s.names (i + 1) (suc c.0) Behind (map lex s.source.tokens)
    ∙ ap (λ p. stand s.names (suc c.0) p (drop (i + 1) (map lex s.source.tokens))) within
    ∙ ap (stand s.names (suc c.0) (Within 0)) (drop-map lex (i + 1) s.source.tokens)
    ∙ closed s.names ls 0 c.0 (ap (closing 0) (behind_it s.source.text s.source.tokens i) ∙ c.1))

behind_shown : (s : State) (i : ℕ) (t : Token) → slice_get s.source.tokens i ≡ Some t → opens_dropped s.names (lexeme_of s.source.text t) (lexemes s (i + 1)) ≡ false → is_trivia t.kind ≡ false → is_outside (at_index s i) ≡ true → at_index s (i + 1) ≡ Behind
behind_shown s i t got kept seen o =
    let ls = lexemes s (i + 1) in
    let l = lexeme_of s.source.text t in
    next_index s i t got
    ∙ from_outside s.names (at_index s i) l ls o
    ∙ ap (λ b. cond b (Within 0) (cond (is_trivia t.kind) Past Behind)) kept
    ∙ ap (λ b. cond b Past Behind) seen

-- WHAT IS LEFT BEHIND
slack_less : (i at all : ℕ) (p q : Standing) → at ≤ all → (is_outside p ≡ true → q ≡ Behind) → slack_of at all q ≤ slack_of i all p
slack_less i at all Behind q l h = let e = h refl in subst (λ q. slack_of at all q ≤ 0) (sym e) (omega arith)
slack_less i at all Past q l h = let e = h refl in subst (λ q. slack_of at all q ≤ i) (sym e) (omega arith)
slack_less i at all (Within d) Behind l h = omega arith
slack_less i at all (Within d) Past l h = omega (arith, l)
slack_less i at all (Within d) (Within e) l h = omega arith

-- a token that is shown, where all before it, from that place on, is dropped
pub shown_tight : (s : State) (from i : ℕ) (t : Token) → slice_get s.source.tokens i ≡ Some t → opens_dropped s.names (lexeme_of s.source.text t) (lexemes s (i + 1)) ≡ false → is_trivia t.kind ≡ false →
    (is_outside (at_index s from) ≡ true → is_outside (at_index s i) ≡ true) → slack (record s { at = i + 1 }) ≤ slack (record s { at = from })
shown_tight s from i t got kept seen out =
    let inside = slice_get_within s.source.tokens i t got in
    slack_less from (i + 1) (length s.source.tokens) (at_index s from) (at_index s (i + 1)) (omega (arith, inside)) (λ o. behind_shown s i t got kept seen (out o))

-- what doesn't grow says where it stands
two_ways : (i at all : ℕ) (p q : Standing) → i ≤ at → (all < at → q ≡ Past) → is_outside p ≡ true → slack_of at all q ≤ slack_of i all p → (at ≡ i) ⊎ (q ≡ Behind)
two_ways i at all p Behind l m o h = inr refl
two_ways i at all Behind Past l m o h = inl (omega (arith, l, h))
two_ways i at all Past Past l m o h = inl (omega (arith, l, h))
two_ways i at all (Within d) Past l m o h = absurd (cc)
two_ways i at all Behind (Within e) l m o h = absurd (omega (arith, h))
two_ways i at all Past (Within e) l m o h = let b : all < at = omega (arith, l, h) in let w : Within e ≡ Past = m b in absurd (cc)
two_ways i at all (Within d) (Within e) l m o h = absurd (cc)

pub stays_or_behind : (old new : State) → is_outside (standing old) ≡ true → Keeps old new → (new.at ≡ old.at) ⊎ (standing new ≡ Behind)
stays_or_behind old new o k =
    let lex = lexeme_of new.source.text in
    let count = ap (λ (z : Source). length z.tokens) k.source in
    let lexemes = length-map new.source.tokens lex in
    two_ways old.at new.at (length old.source.tokens) (standing old) (standing new) k.onward
    (λ b. beyond new.names new.at Behind (map lex new.source.tokens) (omega (arith, b, count, lexemes))) o
    (subst (λ n. slack_of new.at n (standing new) ≤ slack old) count k.tight)
