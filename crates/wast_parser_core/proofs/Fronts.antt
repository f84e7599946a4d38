-- Tokens in front, by their kind.
use Rattle.std.proofs.Common.{◌≡◌, ℕ, true, false, List, [], ◌∷◌, ◌++◌, Some, None, refl, sym, ◌∙◌, ap}
use Rattle.std.proofs.lemmas.Option.{same_Some}
use Rattle.wast_lexer.specs.declared.token.Token.{Token}
use Rattle.wast_lexer.specs.declared.token.TokenKind.{TokenKind}
use Rattle.wast_lexer.specs.declared.token.TokenKind.TheVariants as kinds
use Rattle.wast_lexer.specs.TokenText.{text_of}
use Rattle.wast_grammar.specs.Tokens.{Open, Close, Id, Word, Mark, Integer, Float, Text, Reserved, Broken}
use Rattle.wast_grammar.specs.Significant.{TextToken, token_of, is_trivia, is_lparen}
use Rattle.wast_grammar.specs.Spelling.{that_open, that_close}
use Rattle.wast_grammar.specs.Look.{ask, Opening, On, AClose, Any}
use Rattle.wast_grammar.specs.Grammar.{one_of}
use Rattle.wast_grammar.proofs.SignificantLaws.{lparen_kind}
use Rattle.wast_parser_core.specs.Kinds.{is_rparen}
use Rattle.wast_parser_core.specs.State.{State, ahead, IsNext, past}

-- BEHIND IT
past_token : (k : TokenKind) (w : List ℕ) (p : ℕ) (ts : List TextToken) → is_trivia k ≡ false → past (token_of k w p ++ ts) ≡ ts
past_token kinds.Whitespace w p ts h = absurd (cc)
past_token kinds.LineComment w p ts h = absurd (cc)
past_token kinds.BlockComment w p ts h = absurd (cc)
past_token kinds.LParen w p ts h = refl
past_token kinds.RParen w p ts h = refl
past_token kinds.String w p ts h = refl
past_token kinds.Id w p ts h = refl
past_token kinds.Keyword w p ts h = refl
past_token kinds.Annotation w p ts h = refl
past_token kinds.Reserved w p ts h = refl
past_token (kinds.Integer k) w p ts h = refl
past_token (kinds.Float k) w p ts h = refl

pub past_next : (s : State) (t : Token) (i : ℕ) → IsNext s t i → past (ahead s) ≡ ahead (record s { at = i })
past_next s t i n = ap past n.found ∙ past_token t.kind (text_of s.source.text t) t.offset (ahead (record s { at = i })) n.seen

-- WHERE IT STANDS

-- THAT IT IS THERE
nil_token : (k : TokenKind) (w : List ℕ) (p : ℕ) (ts : List TextToken) → is_trivia k ≡ false → token_of k w p ++ ts ≡ [] → ⊥
nil_token kinds.Whitespace w p ts h e = absurd (cc)
nil_token kinds.LineComment w p ts h e = absurd (cc)
nil_token kinds.BlockComment w p ts h e = absurd (cc)
nil_token kinds.LParen w p ts h e = absurd (cc)
nil_token kinds.RParen w p ts h e = absurd (cc)
nil_token kinds.String w p ts h e = absurd (cc)
nil_token kinds.Id w p ts h e = absurd (cc)
nil_token kinds.Keyword w p ts h e = absurd (cc)
nil_token kinds.Annotation w p ts h e = absurd (cc)
nil_token kinds.Reserved w p ts h e = absurd (cc)
nil_token (kinds.Integer k) w p ts h e = absurd (cc)
nil_token (kinds.Float k) w p ts h e = absurd (cc)

pub not_done : (s : State) (t : Token) (i : ℕ) → IsNext s t i → ahead s ≡ [] → ⊥
not_done s t i n e = nil_token t.kind (text_of s.source.text t) t.offset (ahead (record s { at = i })) n.seen (sym n.found ∙ e)

-- PARENTHESES
no_open : (k : TokenKind) (w : List ℕ) (p : ℕ) (ts : List TextToken) → is_lparen k ≡ false → is_trivia k ≡ false → one_of that_open (token_of k w p ++ ts) ≡ None
no_open kinds.Whitespace w p ts h i = absurd (cc)
no_open kinds.LineComment w p ts h i = absurd (cc)
no_open kinds.BlockComment w p ts h i = absurd (cc)
no_open kinds.LParen w p ts h i = absurd (cc)
no_open kinds.RParen w p ts h i = refl
no_open kinds.String w p ts h i = refl
no_open kinds.Id w p ts h i = refl
no_open kinds.Keyword w p ts h i = refl
no_open kinds.Annotation w p ts h i = refl
no_open kinds.Reserved w p ts h i = refl
no_open (kinds.Integer k) w p ts h i = refl
no_open (kinds.Float k) w p ts h i = refl

pub not_open : (s : State) (t : Token) (i : ℕ) → IsNext s t i → is_lparen t.kind ≡ false → one_of that_open (ahead s) ≡ None
not_open s t i n h = ap (one_of that_open) n.found ∙ no_open t.kind (text_of s.source.text t) t.offset (ahead (record s { at = i })) h n.seen

no_close : (k : TokenKind) (w : List ℕ) (p : ℕ) (ts : List TextToken) → is_rparen k ≡ false → is_trivia k ≡ false → one_of that_close (token_of k w p ++ ts) ≡ None
no_close kinds.Whitespace w p ts h i = absurd (cc)
no_close kinds.LineComment w p ts h i = absurd (cc)
no_close kinds.BlockComment w p ts h i = absurd (cc)
no_close kinds.LParen w p ts h i = refl
no_close kinds.RParen w p ts h i = absurd (cc)
no_close kinds.String w p ts h i = refl
no_close kinds.Id w p ts h i = refl
no_close kinds.Keyword w p ts h i = refl
no_close kinds.Annotation w p ts h i = refl
no_close kinds.Reserved w p ts h i = refl
no_close (kinds.Integer k) w p ts h i = refl
no_close (kinds.Float k) w p ts h i = refl

pub not_close : (s : State) (t : Token) (i : ℕ) → IsNext s t i → is_rparen t.kind ≡ false → one_of that_close (ahead s) ≡ None
not_close s t i n h = ap (one_of that_close) n.found ∙ no_close t.kind (text_of s.source.text t) t.offset (ahead (record s { at = i })) h n.seen

-- what a parenthesis in front leaves
pub opened : (ts us : List TextToken) (p : ℕ) → one_of that_open ts ≡ Some (p, us) → ts ≡ Open p ∷ us
opened [] us p h = absurd (cc)
opened (Open q ∷ ts) us p h = let e = same_Some (q, ts) (p, us) h in ap (λ z. Open z ∷ ts) (ap (λ x. x.0) e) ∙ ap (λ z. Open p ∷ z) (ap (λ x. x.1) e)
opened (Close q ∷ ts) us p h = absurd (cc)
opened (Id n q ∷ ts) us p h = absurd (cc)
opened (Word n q ∷ ts) us p h = absurd (cc)
opened (Mark n q ∷ ts) us p h = absurd (cc)
opened (Integer n w q ∷ ts) us p h = absurd (cc)
opened (Float n q ∷ ts) us p h = absurd (cc)
opened (Text n q ∷ ts) us p h = absurd (cc)
opened (Reserved n q ∷ ts) us p h = absurd (cc)
opened (Broken ∷ ts) us p h = absurd (cc)

pub closed : (ts us : List TextToken) (p : ℕ) → one_of that_close ts ≡ Some (p, us) → ts ≡ Close p ∷ us
closed [] us p h = absurd (cc)
closed (Open q ∷ ts) us p h = absurd (cc)
closed (Close q ∷ ts) us p h = let e = same_Some (q, ts) (p, us) h in ap (λ z. Close z ∷ ts) (ap (λ x. x.0) e) ∙ ap (λ z. Close p ∷ z) (ap (λ x. x.1) e)
closed (Id n q ∷ ts) us p h = absurd (cc)
closed (Word n q ∷ ts) us p h = absurd (cc)
closed (Mark n q ∷ ts) us p h = absurd (cc)
closed (Integer n w q ∷ ts) us p h = absurd (cc)
closed (Float n q ∷ ts) us p h = absurd (cc)
closed (Text n q ∷ ts) us p h = absurd (cc)
closed (Reserved n q ∷ ts) us p h = absurd (cc)
closed (Broken ∷ ts) us p h = absurd (cc)

-- LOOKS AT PARENTHESES
open_seen : (q : ℕ) (ts : List TextToken) → ask (Opening ∷ []) (Open q ∷ ts) ≡ Some true
open_seen q [] = refl
open_seen q (Open p ∷ ts) = refl
open_seen q (Close p ∷ ts) = refl
open_seen q (Id n p ∷ ts) = refl
open_seen q (Word n p ∷ ts) = refl
open_seen q (Mark n p ∷ ts) = refl
open_seen q (Integer n w p ∷ ts) = refl
open_seen q (Float n p ∷ ts) = refl
open_seen q (Text n p ∷ ts) = refl
open_seen q (Reserved n p ∷ ts) = refl
open_seen q (Broken ∷ ts) = refl

asks_open : (k : TokenKind) (w : List ℕ) (p : ℕ) (ts : List TextToken) → is_trivia k ≡ false → ask (Opening ∷ []) (token_of k w p ++ ts) ≡ Some (is_lparen k)
asks_open kinds.Whitespace w p ts h = absurd (cc)
asks_open kinds.LineComment w p ts h = absurd (cc)
asks_open kinds.BlockComment w p ts h = absurd (cc)
asks_open kinds.LParen w p ts h = open_seen p ts
asks_open kinds.RParen w p ts h = refl
asks_open kinds.String w p ts h = refl
asks_open kinds.Id w p ts h = refl
asks_open kinds.Keyword w p ts h = refl
asks_open kinds.Annotation w p ts h = refl
asks_open kinds.Reserved w p ts h = refl
asks_open (kinds.Integer k) w p ts h = refl
asks_open (kinds.Float k) w p ts h = refl

pub asked_open : (s : State) (t : Token) (i : ℕ) → IsNext s t i → ask (Opening ∷ []) (ahead s) ≡ Some (is_lparen t.kind)
asked_open s t i n = ap (ask (Opening ∷ [])) n.found ∙ asks_open t.kind (text_of s.source.text t) t.offset (ahead (record s { at = i })) n.seen

open_no_close : (q : ℕ) (ts : List TextToken) → ask (On false AClose Any ∷ []) (Open q ∷ ts) ≡ Some false
open_no_close q [] = refl
open_no_close q (Open p ∷ ts) = refl
open_no_close q (Close p ∷ ts) = refl
open_no_close q (Id n p ∷ ts) = refl
open_no_close q (Word n p ∷ ts) = refl
open_no_close q (Mark n p ∷ ts) = refl
open_no_close q (Integer n w p ∷ ts) = refl
open_no_close q (Float n p ∷ ts) = refl
open_no_close q (Text n p ∷ ts) = refl
open_no_close q (Reserved n p ∷ ts) = refl
open_no_close q (Broken ∷ ts) = refl

asks_close : (k : TokenKind) (w : List ℕ) (p : ℕ) (ts : List TextToken) → is_trivia k ≡ false → ask (On false AClose Any ∷ []) (token_of k w p ++ ts) ≡ Some (is_rparen k)
asks_close kinds.Whitespace w p ts h = absurd (cc)
asks_close kinds.LineComment w p ts h = absurd (cc)
asks_close kinds.BlockComment w p ts h = absurd (cc)
asks_close kinds.LParen w p ts h = open_no_close p ts
asks_close kinds.RParen w p ts h = refl
asks_close kinds.String w p ts h = refl
asks_close kinds.Id w p ts h = refl
asks_close kinds.Keyword w p ts h = refl
asks_close kinds.Annotation w p ts h = refl
asks_close kinds.Reserved w p ts h = refl
asks_close (kinds.Integer k) w p ts h = refl
asks_close (kinds.Float k) w p ts h = refl

pub asked_close : (s : State) (t : Token) (i : ℕ) → IsNext s t i → ask (On false AClose Any ∷ []) (ahead s) ≡ Some (is_rparen t.kind)
asked_close s t i n = ap (ask (On false AClose Any ∷ [])) n.found ∙ asks_close t.kind (text_of s.source.text t) t.offset (ahead (record s { at = i })) n.seen

pub took_open : (s : State) (t : Token) (i : ℕ) → IsNext s t i → is_lparen t.kind ≡ true → one_of that_open (ahead s) ≡ Some (t.offset, ahead (record s { at = i }))
took_open s t i n h = ap (one_of that_open) n.found ∙ ap (λ k. one_of that_open (token_of k (text_of s.source.text t) t.offset ++ ahead (record s { at = i }))) (lparen_kind t.kind h)
