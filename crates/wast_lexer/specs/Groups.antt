-- Groups of parentheses.
use Rattle.std.specs.Prelude.{◌≡◌, ℕ, ◌+◌, List, [], ◌∷◌, ◌++◌, length, map}
use Rattle.wast_lexer.specs.declared.token.TokenKind.{TokenKind}
use Rattle.wast_lexer.specs.declared.token.TokenKind.TheVariants.{LParen, RParen}
use Rattle.wast_lexer.specs.declared.token.Token.{Token}
use Rattle.wast_lexer.specs.declared.paren.Paren.{Paren}
use Rattle.wast_lexer.specs.declared.paren.Paren.TheVariants.{Opens, Closes, Other}

abbrev pub paren_of : TokenKind → Paren
paren_of LParen = Opens
paren_of RParen = Closes
paren_of _ = Other

abbrev pub parens : List Token → List Paren
parens tokens = map (λ t. paren_of t.kind) tokens

-- what stands between two parentheses that balance
pub data Balanced : List Paren → Type 0 where
  Nothing : Balanced []
  Plain : {tokens : List Paren} → Balanced tokens → Balanced (Other ∷ tokens)
  Group : {inner tokens : List Paren} → Balanced inner → Balanced tokens → Balanced (Opens ∷ (inner ++ Closes ∷ tokens))

-- the opening parenthesis with one index is balanced by the closing one with another
pub record IsGroupAt (tokens : List Paren) (index end : ℕ) : Type 0 where
  pub front : List Paren
  pub inner : List Paren
  pub rest : List Paren
  pub balanced : Balanced inner
  pub split : tokens ≡ front ++ Opens ∷ (inner ++ Closes ∷ rest)
  pub index_is : index ≡ length front
  pub end_is : end ≡ index + 1 + length inner
