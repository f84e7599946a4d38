use Rattle.std.proofs.lemmas.Str.{IsCharBoundary-start}
use Rattle.wast_lexer.proofs.lexer.Lexer.new.Goals as goal

pub invariant_of-result : goal.invariant_of-result
invariant_of-result c = record { fits = c.requires; start = IsCharBoundary-start c.args.input.now c.utf8.input }
