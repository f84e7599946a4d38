use Rattle.std.proofs.Common.{length, ◌-◌, ◌≤◌}
use Rattle.wast_lexer_strings.proofs.Standing.{Reads}
use Rattle.wast_lexer_strings.proofs.string.stands_for.Given as goal

abbrev pub invariant-elements : goal.invariant-elements
invariant-elements l = record { low : 1 ≤ l.at; high : l.at ≤ length l.word; reads : Reads l.word l.at l.bytes l.left }

abbrev pub decreases-elements : goal.decreases-elements
decreases-elements l = length l.word - l.at
