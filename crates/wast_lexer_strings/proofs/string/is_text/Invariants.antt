use Rattle.std.proofs.Common.{length, ◌-◌, ◌≤◌}
use Rattle.wast_lexer_strings.proofs.Following.{Reads}
use Rattle.wast_lexer_strings.proofs.string.is_text.Given as goal

abbrev pub invariant-elements : goal.invariant-elements
invariant-elements l = record { low : l.from ≤ l.at; high : l.at ≤ length l.text; reads : Reads l.text l.from l.at l.tail l.some }

abbrev pub decreases-elements : goal.decreases-elements
decreases-elements l = length l.text - l.at
