use Rattle.std.proofs.Common.{◌≡◌, ◌-◌, ◌≤◌, length, drop}
use Rattle.wast_lexer.specs.Kinds.{is_space}
use Rattle.wast_lexer.specs.Scan.{skip}
use Rattle.wast_lexer.proofs.skip.space_end.Given as goal

abbrev pub invariant-loop-end : goal.invariant-loop-end
invariant-loop-end l = record { forward : l.from ≤ l.end; within : l.end ≤ length l.text; rest : skip is_space (drop l.from l.text) ≡ skip is_space (drop l.end l.text) }

abbrev pub decreases-loop-end : goal.decreases-loop-end
decreases-loop-end l = length l.text - l.end
