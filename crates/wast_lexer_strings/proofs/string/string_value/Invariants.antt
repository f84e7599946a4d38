use Rattle.std.proofs.Common.{length, ◌-◌, ◌≡◌, ◌≤◌, drop}
use Rattle.wast_lexer_strings.specs.StringScan.{read, more}
use Rattle.wast_lexer_strings.specs.StringScan.State.{Within}
use Rattle.wast_lexer_strings.proofs.string.string_value.Given as goal

abbrev pub invariant-elements : goal.invariant-elements
invariant-elements l = record { low : 1 ≤ l.at; high : l.at ≤ length l.word; rest : read Within (drop 1 l.word) ≡ more l.out.items (read Within (drop l.at l.word)) }

abbrev pub decreases-elements : goal.decreases-elements
decreases-elements l = length l.word - l.at
