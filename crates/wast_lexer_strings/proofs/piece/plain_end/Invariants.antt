use Rattle.std.proofs.Common.{length, ◌-◌, ◌≡◌, ◌≤◌, drop}
use Rattle.std.specs.Prelude.{slice_range}
use Rattle.wast_lexer_strings.specs.StringScan.{read, more}
use Rattle.wast_lexer_strings.specs.StringScan.State.{Within}
use Rattle.wast_lexer_strings.proofs.piece.plain_end.Given as goal

abbrev pub invariant-plain : goal.invariant-plain
invariant-plain l = record { low : l.from ≤ l.at; high : l.at ≤ length l.text; passed : read Within (drop l.from l.text) ≡ more (slice_range l.text l.from l.at) (read Within (drop l.at l.text)) }

abbrev pub decreases-plain : goal.decreases-plain
decreases-plain l = length l.text - l.at
