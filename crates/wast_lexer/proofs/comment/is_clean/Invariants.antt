use Rattle.std.proofs.Common.{◌≡◌, ◌-◌, ◌≤◌, length, drop}
use Rattle.wast_lexer.specs.Kinds.{is_clean}
use Rattle.wast_lexer.proofs.comment.is_clean.Given as goal

abbrev pub invariant-leads : goal.invariant-leads
invariant-leads l = record { within : l.at ≤ length l.text; rest : is_clean l.text ≡ is_clean (drop l.at l.text) }

abbrev pub decreases-leads : goal.decreases-leads
decreases-leads l = length l.text - l.at
