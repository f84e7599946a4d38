use Rattle.std.proofs.Common.{◌≡◌}
use Rattle.wast_lexer.specs.Source.{source}
use Rattle.wast_lexer.specs.Tokens.{lexer_of}
use Rattle.wast_rows.proofs.lexer.passed.Given as goal

abbrev pub invariant-loop-next : goal.invariant-loop-next
invariant-loop-next l = source (lexer_of l.tokens) ≡ l.text
