use Rattle.std.proofs.Common.{◌≡◌, ◌-◌, ◌≤◌, length, drop}
use Rattle.wast_lexer.specs.Scan.{close}
use Rattle.wast_lexer.proofs.comment.block_end.Given as goal

abbrev pub invariant-levels : goal.invariant-levels
invariant-levels l = record { forward : l.from ≤ l.at; within : l.at ≤ length l.text; deep : l.depth ≤ l.at; rest : close 0 (drop l.from l.text) ≡ close l.depth (drop l.at l.text) }

abbrev pub decreases-levels : goal.decreases-levels
decreases-levels l = length l.text - l.at
