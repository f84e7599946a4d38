-- Words of a set in front.
use Rattle.std.proofs.Common.{◌≡◌, ℕ, true, false, List, [], ◌∷◌, ◌++◌, Option, Some, None, map, refl, ◌∙◌, ap}
use Rattle.std.specs.Prelude.{is_some, option_map}
use Rattle.wast_lexer.specs.declared.token.Token.{Token}
use Rattle.wast_lexer.specs.declared.token.TokenKind.{TokenKind}
use Rattle.wast_lexer.specs.declared.token.TokenKind.TheVariants as kinds
use Rattle.wast_lexer.specs.TokenText.{text_of}
use Rattle.wast_grammar.specs.Tokens.{Id, Integer, Float, Reserved}
use Rattle.wast_grammar.specs.Spelling.{find_but}
use Rattle.wast_grammar.specs.Significant.{TextToken, token_of, is_trivia}
use Rattle.wast_grammar.specs.Look.{AWord, On, OneOf, Texts, ask}
use Rattle.wast_grammar.proofs.GrammarLaws.{among_asked}
use Rattle.wast_parser_core.specs.Kinds.{is_keyword}
use Rattle.wast_parser_core.specs.State.{State, ahead, IsNext}
use Rattle.wast_parser_core.proofs.Words.{keyword_kind, flat}

-- what the set has for a word in front
pub asked_among : {E : Type 0} (word : E → List ℕ) (entries : List E) (but : List (List ℕ)) (s : State) (t : Token) (i : ℕ) → IsNext s t i → is_keyword t.kind ≡ true →
    ask (On false AWord (OneOf (map word entries) but) ∷ []) (ahead s) ≡ Some (is_some (find_but word entries but (text_of s.source.text t)))
asked_among word entries but s t i n is =
    let w = text_of s.source.text t in
    let rest = ahead (record s { at = i }) in
    ap (ask (On false AWord (OneOf (map word entries) but) ∷ [])) (n.found ∙ ap (λ k. token_of k w t.offset ++ rest) (keyword_kind t.kind is))
    ∙ among_asked word entries but w t.offset rest

no_word : (x : Texts) (k : TokenKind) (w : List ℕ) (p : ℕ) (ts : List TextToken) → is_keyword k ≡ false → is_trivia k ≡ false → ask (On false AWord x ∷ []) (token_of k w p ++ ts) ≡ Some false
no_word x kinds.Whitespace w p ts h i = absurd (cc)
no_word x kinds.LineComment w p ts h i = absurd (cc)
no_word x kinds.BlockComment w p ts h i = absurd (cc)
no_word x kinds.LParen w p ts h i = flat x p ts
no_word x kinds.RParen w p ts h i = refl
no_word x kinds.String w p ts h i = refl
no_word x kinds.Id w p ts h i = refl
no_word x kinds.Keyword w p ts h i = absurd (cc)
no_word x kinds.Annotation w p ts h i = refl
no_word x kinds.Reserved w p ts h i = refl
no_word x (kinds.Integer k) w p ts h i = refl
no_word x (kinds.Float k) w p ts h i = refl

pub asked_no_word : (x : Texts) (s : State) (t : Token) (i : ℕ) → IsNext s t i → is_keyword t.kind ≡ false → ask (On false AWord x ∷ []) (ahead s) ≡ Some false
asked_no_word x s t i n h =
    ap (ask (On false AWord x ∷ [])) n.found
    ∙ no_word x t.kind (text_of s.source.text t) t.offset (ahead (record s { at = i })) h n.seen

pub some_map : {A B : Type 0} (f : A → B) (o : Option A) → is_some (option_map f o) ≡ is_some o
some_map f None = refl
some_map f (Some x) = refl
