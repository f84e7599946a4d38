-- Names of annotations in front.
use Rattle.std.proofs.Common.{◌≡◌, ℕ, true, false, ◌&&◌, List, [], ◌∷◌, ◌++◌, Some, refl, sym, ◌∙◌, ap}
use Rattle.wast_lexer.specs.declared.token.Token.{Token}
use Rattle.wast_lexer.specs.declared.token.TokenKind.{TokenKind}
use Rattle.wast_lexer.specs.declared.token.TokenKind.TheVariants as kinds
use Rattle.wast_lexer.specs.TokenText.{text_of}
use Rattle.wast_lexer.specs.Tiling.{is_annotation}
use Rattle.wast_grammar.specs.Tokens.{Open, Close, Id, Word, Mark, Integer, Float, Text, Reserved, Broken, marked_value}
use Rattle.wast_grammar.specs.Significant.{TextToken, token_of, is_trivia, is_lparen}
use Rattle.wast_grammar.specs.Spelling.{same_text}
use Rattle.wast_grammar.specs.Look.{ask, this_annotation}
use Rattle.wast_grammar.proofs.SignificantLaws.{lparen_kind}
use Rattle.wast_parser_core.specs.Marks.{this_mark}
use Rattle.wast_parser_core.specs.State.{State, ahead, IsNext}
use Rattle.wast_parser_core.proofs.Words.{if_same}

-- a look for the name of an annotation meets no parenthesis
flat : (v : List ℕ) (q : ℕ) (ts : List TextToken) → ask (this_mark v ∷ []) (Open q ∷ ts) ≡ Some false
flat v q [] = refl
flat v q (Open p ∷ ts) = refl
flat v q (Close p ∷ ts) = refl
flat v q (Id n p ∷ ts) = refl
flat v q (Word n p ∷ ts) = refl
flat v q (Mark n p ∷ ts) = refl
flat v q (Integer n w p ∷ ts) = refl
flat v q (Float n p ∷ ts) = refl
flat v q (Text n p ∷ ts) = refl
flat v q (Reserved n p ∷ ts) = refl
flat v q (Broken ∷ ts) = refl

asks_mark : (v : List ℕ) (k : TokenKind) (w : List ℕ) (p : ℕ) (ts : List TextToken) → is_trivia k ≡ false → ask (this_mark v ∷ []) (token_of k w p ++ ts) ≡ Some (is_annotation k && same_text v (marked_value w))
asks_mark v kinds.Whitespace w p ts h = absurd (cc)
asks_mark v kinds.LineComment w p ts h = absurd (cc)
asks_mark v kinds.BlockComment w p ts h = absurd (cc)
asks_mark v kinds.LParen w p ts h = flat v p ts
asks_mark v kinds.RParen w p ts h = refl
asks_mark v kinds.String w p ts h = refl
asks_mark v kinds.Id w p ts h = refl
asks_mark v kinds.Keyword w p ts h = refl
asks_mark v kinds.Annotation w p ts h = if_same (same_text v (marked_value w))
asks_mark v kinds.Reserved w p ts h = refl
asks_mark v (kinds.Integer k) w p ts h = refl
asks_mark v (kinds.Float k) w p ts h = refl

pub asked_mark : (v : List ℕ) (s : State) (t : Token) (i : ℕ) → IsNext s t i → ask (this_mark v ∷ []) (ahead s) ≡ Some (is_annotation t.kind && same_text v (marked_value (text_of s.source.text t)))
asked_mark v s t i n = ap (ask (this_mark v ∷ [])) n.found ∙ asks_mark v t.kind (text_of s.source.text t) t.offset (ahead (record s { at = i })) n.seen

-- behind a parenthesis a look for its group asks what one for the name does
pub group_mark : (v : List ℕ) (q : ℕ) (ts : List TextToken) → ask (this_annotation v ∷ []) (Open q ∷ ts) ≡ ask (this_mark v ∷ []) ts
group_mark v q [] = refl
group_mark v q (Open p ∷ ts) = sym (flat v p ts)
group_mark v q (Close p ∷ ts) = refl
group_mark v q (Id n p ∷ ts) = refl
group_mark v q (Word n p ∷ ts) = refl
group_mark v q (Mark n p ∷ ts) = refl
group_mark v q (Integer n w p ∷ ts) = refl
group_mark v q (Float n p ∷ ts) = refl
group_mark v q (Text n p ∷ ts) = refl
group_mark v q (Reserved n p ∷ ts) = refl
group_mark v q (Broken ∷ ts) = refl

asks_marked : (v : List ℕ) (k : TokenKind) (w : List ℕ) (p : ℕ) (ts : List TextToken) → is_lparen k ≡ false → is_trivia k ≡ false → ask (this_annotation v ∷ []) (token_of k w p ++ ts) ≡ Some false
asks_marked v kinds.Whitespace w p ts h i = absurd (cc)
asks_marked v kinds.LineComment w p ts h i = absurd (cc)
asks_marked v kinds.BlockComment w p ts h i = absurd (cc)
asks_marked v kinds.LParen w p ts h i = absurd (cc)
asks_marked v kinds.RParen w p ts h i = refl
asks_marked v kinds.String w p ts h i = refl
asks_marked v kinds.Id w p ts h i = refl
asks_marked v kinds.Keyword w p ts h i = refl
asks_marked v kinds.Annotation w p ts h i = refl
asks_marked v kinds.Reserved w p ts h i = refl
asks_marked v (kinds.Integer k) w p ts h i = refl
asks_marked v (kinds.Float k) w p ts h i = refl

pub no_marked : (v : List ℕ) (s : State) (t : Token) (i : ℕ) → IsNext s t i → is_lparen t.kind ≡ false → ask (this_annotation v ∷ []) (ahead s) ≡ Some false
no_marked v s t i n h = ap (ask (this_annotation v ∷ [])) n.found ∙ asks_marked v t.kind (text_of s.source.text t) t.offset (ahead (record s { at = i })) h n.seen

pub within_marked : (v : List ℕ) (s : State) (t : Token) (i : ℕ) → IsNext s t i → is_lparen t.kind ≡ true → ask (this_annotation v ∷ []) (ahead s) ≡ ask (this_mark v ∷ []) (ahead (record s { at = i }))
within_marked v s t i n h =
    ap (ask (this_annotation v ∷ [])) (n.found ∙ ap (λ k. token_of k (text_of s.source.text t) t.offset ++ ahead (record s { at = i })) (lparen_kind t.kind h))
    ∙ group_mark v t.offset (ahead (record s { at = i }))
