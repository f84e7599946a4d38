-- Words in front.
use Rattle.std.proofs.Common.{◌≡◌, ℕ, Bool, true, false, cond, ◌&&◌, List, [], ◌∷◌, ◌++◌, Some, None, refl, sym, ◌∙◌, ap}
use Rattle.wast_lexer.specs.declared.token.Token.{Token}
use Rattle.wast_lexer.specs.declared.token.TokenKind.{TokenKind}
use Rattle.wast_lexer.specs.declared.token.TokenKind.TheVariants as kinds
use Rattle.wast_lexer.specs.TokenText.{text_of}
use Rattle.wast_grammar.specs.Tokens.{Open, Close, Id, Word, Mark, Integer, Float, Text, Reserved, Broken}
use Rattle.wast_grammar.specs.Significant.{TextToken, token_of, is_trivia, is_lparen}
use Rattle.wast_grammar.specs.Spelling.{same_text, ◌>>=◌, that_one}
use Rattle.wast_grammar.specs.Look.{ask, AWord, On, Texts, This, this_word}
use Rattle.wast_grammar.specs.Grammar.{one_of}
use Rattle.wast_grammar.proofs.SignificantLaws.{lparen_kind}
use Rattle.wast_parser_core.specs.Kinds.{is_keyword}
use Rattle.wast_parser_core.specs.State.{State, ahead, IsNext}

pub keyword_kind : (k : TokenKind) → is_keyword k ≡ true → k ≡ kinds.Keyword
keyword_kind kinds.Keyword h = refl
keyword_kind _ h = absurd (cc)

no_one : (v : List ℕ) (k : TokenKind) (w : List ℕ) (p : ℕ) (ts : List TextToken) → is_keyword k ≡ false → is_trivia k ≡ false → one_of (that_one v) (token_of k w p ++ ts) ≡ None
no_one v kinds.Whitespace w p ts h i = absurd (cc)
no_one v kinds.LineComment w p ts h i = absurd (cc)
no_one v kinds.BlockComment w p ts h i = absurd (cc)
no_one v kinds.LParen w p ts h i = refl
no_one v kinds.RParen w p ts h i = refl
no_one v kinds.String w p ts h i = refl
no_one v kinds.Id w p ts h i = refl
no_one v kinds.Keyword w p ts h i = absurd (cc)
no_one v kinds.Annotation w p ts h i = refl
no_one v kinds.Reserved w p ts h i = refl
no_one v (kinds.Integer k) w p ts h i = refl
no_one v (kinds.Float k) w p ts h i = refl

pub not_word : (v : List ℕ) (s : State) (t : Token) (i : ℕ) → IsNext s t i → is_keyword t.kind ≡ false → one_of (that_one v) (ahead s) ≡ None
not_word v s t i n h = ap (one_of (that_one v)) n.found ∙ no_one v t.kind (text_of s.source.text t) t.offset (ahead (record s { at = i })) h n.seen

pub other_word : (v : List ℕ) (s : State) (t : Token) (i : ℕ) → IsNext s t i → is_keyword t.kind ≡ true → same_text v (text_of s.source.text t) ≡ false → one_of (that_one v) (ahead s) ≡ None
other_word v s t i n h other =
    let w = text_of s.source.text t in
    let rest = ahead (record s { at = i }) in
    ap (one_of (that_one v)) n.found
    ∙ ap (λ k. one_of (that_one v) (token_of k w t.offset ++ rest)) (keyword_kind t.kind h)
    ∙ ap (λ b. (cond b (Some t.offset) None) >>= λ a. Some (a, rest)) other

-- a look for a word meets no parenthesis
pub flat : (x : Texts) (q : ℕ) (ts : List TextToken) → ask (On false AWord x ∷ []) (Open q ∷ ts) ≡ Some false
flat x q [] = refl
flat x q (Open p ∷ ts) = refl
flat x q (Close p ∷ ts) = refl
flat x q (Id n p ∷ ts) = refl
flat x q (Word n p ∷ ts) = refl
flat x q (Mark n p ∷ ts) = refl
flat x q (Integer n w p ∷ ts) = refl
flat x q (Float n p ∷ ts) = refl
flat x q (Text n p ∷ ts) = refl
flat x q (Reserved n p ∷ ts) = refl
flat x q (Broken ∷ ts) = refl

pub if_same : (b : Bool) → Some (cond b true false) ≡ Some b
if_same true = refl
if_same false = refl

asks_word : (v : List ℕ) (k : TokenKind) (w : List ℕ) (p : ℕ) (ts : List TextToken) → is_trivia k ≡ false → ask (this_word v ∷ []) (token_of k w p ++ ts) ≡ Some (is_keyword k && same_text v w)
asks_word v kinds.Whitespace w p ts h = absurd (cc)
asks_word v kinds.LineComment w p ts h = absurd (cc)
asks_word v kinds.BlockComment w p ts h = absurd (cc)
asks_word v kinds.LParen w p ts h = flat (This v) p ts
asks_word v kinds.RParen w p ts h = refl
asks_word v kinds.String w p ts h = refl
asks_word v kinds.Id w p ts h = refl
asks_word v kinds.Keyword w p ts h = if_same (same_text v w)
asks_word v kinds.Annotation w p ts h = refl
asks_word v kinds.Reserved w p ts h = refl
asks_word v (kinds.Integer k) w p ts h = refl
asks_word v (kinds.Float k) w p ts h = refl

pub asked_word : (v : List ℕ) (s : State) (t : Token) (i : ℕ) → IsNext s t i → ask (this_word v ∷ []) (ahead s) ≡ Some (is_keyword t.kind && same_text v (text_of s.source.text t))
asked_word v s t i n = ap (ask (this_word v ∷ [])) n.found ∙ asks_word v t.kind (text_of s.source.text t) t.offset (ahead (record s { at = i })) n.seen

-- behind a parenthesis a look for a group asks what one for its word does
pub group_word : (x : Texts) (q : ℕ) (ts : List TextToken) → ask (On true AWord x ∷ []) (Open q ∷ ts) ≡ ask (On false AWord x ∷ []) ts
group_word x q [] = refl
group_word x q (Open p ∷ ts) = sym (flat x p ts)
group_word x q (Close p ∷ ts) = refl
group_word x q (Id n p ∷ ts) = refl
group_word x q (Word n p ∷ ts) = refl
group_word x q (Mark n p ∷ ts) = refl
group_word x q (Integer n w p ∷ ts) = refl
group_word x q (Float n p ∷ ts) = refl
group_word x q (Text n p ∷ ts) = refl
group_word x q (Reserved n p ∷ ts) = refl
group_word x q (Broken ∷ ts) = refl

asks_group : (x : Texts) (k : TokenKind) (w : List ℕ) (p : ℕ) (ts : List TextToken) → is_lparen k ≡ false → is_trivia k ≡ false → ask (On true AWord x ∷ []) (token_of k w p ++ ts) ≡ Some false
asks_group x kinds.Whitespace w p ts h i = absurd (cc)
asks_group x kinds.LineComment w p ts h i = absurd (cc)
asks_group x kinds.BlockComment w p ts h i = absurd (cc)
asks_group x kinds.LParen w p ts h i = absurd (cc)
asks_group x kinds.RParen w p ts h i = refl
asks_group x kinds.String w p ts h i = refl
asks_group x kinds.Id w p ts h i = refl
asks_group x kinds.Keyword w p ts h i = refl
asks_group x kinds.Annotation w p ts h i = refl
asks_group x kinds.Reserved w p ts h i = refl
asks_group x (kinds.Integer k) w p ts h i = refl
asks_group x (kinds.Float k) w p ts h i = refl

pub no_group : (x : Texts) (s : State) (t : Token) (i : ℕ) → IsNext s t i → is_lparen t.kind ≡ false → ask (On true AWord x ∷ []) (ahead s) ≡ Some false
no_group x s t i n h = ap (ask (On true AWord x ∷ [])) n.found ∙ asks_group x t.kind (text_of s.source.text t) t.offset (ahead (record s { at = i })) h n.seen

pub within_group : (x : Texts) (s : State) (t : Token) (i : ℕ) → IsNext s t i → is_lparen t.kind ≡ true → ask (On true AWord x ∷ []) (ahead s) ≡ ask (On false AWord x ∷ []) (ahead (record s { at = i }))
within_group x s t i n h =
    ap (ask (On true AWord x ∷ [])) (n.found ∙ ap (λ k. token_of k (text_of s.source.text t) t.offset ++ ahead (record s { at = i })) (lparen_kind t.kind h))
    ∙ group_word x t.offset (ahead (record s { at = i }))
