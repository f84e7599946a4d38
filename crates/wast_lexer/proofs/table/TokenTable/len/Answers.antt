use Rattle.std.proofs.Common.{ap, length, arith}
use Rattle.wast_lexer.specs.Table.{Tabled}
use Rattle.wast_lexer.proofs.EntryLaws.{tokens_length}
use Rattle.wast_lexer.proofs.table.TokenTable.len.Goals as goal

pub returns : goal.returns
returns c = omega (arith, c.len.ensures, tokens_length 0 c.self.inside.entries.items, ap (λ (t : Tabled). length t.tokens) c.self.view_is)
