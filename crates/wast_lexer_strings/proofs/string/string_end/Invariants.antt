use Rattle.std.proofs.Common.{length, ◌-◌, ◌≡◌, ◌≤◌, ℕ, List, drop}
use Rattle.wast_lexer_strings.specs.StringScan.{read, more}
use Rattle.wast_lexer_strings.specs.StringScan.State.{Within}
use Rattle.wast_lexer_strings.proofs.string.string_end.Given as goal

abbrev pub invariant-elements : goal.invariant-elements
invariant-elements l = record { low : l.from ≤ l.at; high : l.at ≤ length l.text; rest : (out : List ℕ) × (read Within (drop l.from l.text) ≡ more out (read Within (drop l.at l.text))) }

abbrev pub decreases-elements : goal.decreases-elements
decreases-elements l = length l.text - l.at
