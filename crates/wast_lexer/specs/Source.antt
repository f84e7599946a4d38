-- What a lexer holds.
use Rattle.std.specs.Prelude.{ℕ, Bool, List}
use Rattle.wast_lexer.specs.declared.lexer.Lexer.{Lexer}

-- the bytes of its text
abbrev pub source : Lexer → List ℕ
source l = l.input.now

-- it allows the nine refused characters
abbrev pub allows : Lexer → Bool
allows l = l.allow
