-- A token: its kind, its text, and the offset of its first byte.
use Rattle.std.specs.Prelude.{ℕ, ◌+◌, List, slice_range}
use Rattle.wast_lexer.specs.declared.token.TokenKind.{TokenKind}
use Rattle.wast_lexer.specs.declared.token.Token.{Token}

pub record Lexeme : Type 0 where
  pub kind : TokenKind
  pub text : List ℕ
  pub place : ℕ

-- what the code's token stands for in a text
abbrev pub lexeme_of : List ℕ → Token → Lexeme
lexeme_of text t = record { kind = t.kind; text = slice_range text t.offset (t.offset + t.len); place = t.offset }
