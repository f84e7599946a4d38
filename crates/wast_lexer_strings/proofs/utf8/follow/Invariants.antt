use Rattle.std.proofs.Common.{length, ◌-◌, ◌↔◌, ℕ, List, drop, ◌++◌}
use Rattle.wast_lexer_strings.specs.Feeds.{Completes}
use Rattle.wast_lexer_strings.proofs.utf8.follow.Given as goal

abbrev pub invariant-bytes : goal.invariant-bytes
invariant-bytes l = (more : List ℕ) → Completes l.fn.tail (l.bytes ++ more) ↔ Completes l.last (drop l.at l.bytes ++ more)

abbrev pub decreases-bytes : goal.decreases-bytes
decreases-bytes l = length l.bytes - l.at
