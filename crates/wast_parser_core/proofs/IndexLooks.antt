-- Looks for indices.
use Rattle.std.proofs.Common.{◌≡◌, ℕ, false, ◌||◌, List, [], ◌∷◌, ◌++◌, Some, refl, ◌∙◌, ap}
use Rattle.wast_lexer.specs.declared.token.Token.{Token}
use Rattle.wast_lexer.specs.declared.token.TokenKind.{TokenKind}
use Rattle.wast_lexer.specs.declared.token.TokenKind.TheVariants as kinds
use Rattle.wast_lexer.specs.TokenText.{text_of}
use Rattle.wast_grammar.specs.Tokens.{Open, Close, Id, Word, Mark, Integer, Float, Text, Reserved, Broken}
use Rattle.wast_grammar.specs.Significant.{TextToken, token_of, is_trivia}
use Rattle.wast_grammar.specs.Look.{ask, On, AnInteger, AnId, Any}
use Rattle.wast_parser_core.specs.Kinds.{is_integer, is_identifier}
use Rattle.wast_parser_core.specs.State.{State, ahead, IsNext}

index_open : (q : ℕ) (ts : List TextToken) → ask (On false AnInteger Any ∷ On false AnId Any ∷ []) (Open q ∷ ts) ≡ Some false
index_open q [] = refl
index_open q (Open p ∷ ts) = refl
index_open q (Close p ∷ ts) = refl
index_open q (Id n p ∷ ts) = refl
index_open q (Word n p ∷ ts) = refl
index_open q (Mark n p ∷ ts) = refl
index_open q (Integer n w p ∷ ts) = refl
index_open q (Float n p ∷ ts) = refl
index_open q (Text n p ∷ ts) = refl
index_open q (Reserved n p ∷ ts) = refl
index_open q (Broken ∷ ts) = refl

asks_index : (k : TokenKind) (w : List ℕ) (p : ℕ) (ts : List TextToken) → is_trivia k ≡ false → ask (On false AnInteger Any ∷ On false AnId Any ∷ []) (token_of k w p ++ ts) ≡ Some (is_integer k || is_identifier k)
asks_index kinds.Whitespace w p ts h = absurd (cc)
asks_index kinds.LineComment w p ts h = absurd (cc)
asks_index kinds.BlockComment w p ts h = absurd (cc)
asks_index kinds.LParen w p ts h = index_open p ts
asks_index kinds.RParen w p ts h = refl
asks_index kinds.String w p ts h = refl
asks_index kinds.Id w p ts h = refl
asks_index kinds.Keyword w p ts h = refl
asks_index kinds.Annotation w p ts h = refl
asks_index kinds.Reserved w p ts h = refl
asks_index (kinds.Integer k) w p ts h = refl
asks_index (kinds.Float k) w p ts h = refl

pub asked_index : (s : State) (t : Token) (i : ℕ) → IsNext s t i → ask (On false AnInteger Any ∷ On false AnId Any ∷ []) (ahead s) ≡ Some (is_integer t.kind || is_identifier t.kind)
asked_index s t i n = ap (ask (On false AnInteger Any ∷ On false AnId Any ∷ [])) n.found ∙ asks_index t.kind (text_of s.source.text t) t.offset (ahead (record s { at = i })) n.seen
