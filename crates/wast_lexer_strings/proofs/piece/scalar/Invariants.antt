use Rattle.std.proofs.Common.{length, ◌-◌, ◌≡◌, ◌≤◌, ◌<◌, drop}
use Rattle.wast_lexer_strings.specs.StringScan.{read}
use Rattle.wast_lexer_strings.specs.StringScan.State.{Gap}
use Rattle.wast_lexer_strings.proofs.StringScanLaws.{spelled}
use Rattle.wast_lexer_strings.proofs.piece.scalar.Given as goal

abbrev pub invariant-digits : goal.invariant-digits
invariant-digits l = record { low : l.from ≤ l.at; high : l.at ≤ length l.text; small : l.value < 1114112; rest : read (Gap 0) (drop l.from l.text) ≡ read (spelled l.gap l.value) (drop l.at l.text) }

abbrev pub decreases-digits : goal.decreases-digits
decreases-digits l = length l.text - l.at
