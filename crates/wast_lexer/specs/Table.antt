-- What a table of tokens holds.
use Rattle.std.specs.Prelude.{ℕ, Bool, false, List, map, drop, Option, Some, None}
use Rattle.wast_lexer.specs.declared.token.Token.{Token}
use Rattle.wast_lexer.specs.declared.fault.LexFault.{LexFault}
use Rattle.wast_lexer.specs.Lexeme.{lexeme_of}
use Rattle.wast_lexer.specs.Tiling.{Tiles, TilesUpTo}
use Rattle.wast_lexer.specs.Parse.{is_opened, IsFaultAt}

-- what a table answers: tokens, and why there are no more
pub record Tabled : Type 0 where
  pub tokens : List Token
  pub fault : Option LexFault

-- the text is these tokens; or it begins with them, up to the place of this fault
abbrev pub IsTable : Bool → List ℕ → List Token → Option LexFault → Type 0
IsTable allow text tokens None = Tiles allow false 0 text (map (lexeme_of text) tokens)
IsTable allow text tokens (Some f) = (place : ℕ) × TilesUpTo allow false 0 text (map (lexeme_of text) tokens) (is_opened text place) place (drop place text) × IsFaultAt allow text place f
