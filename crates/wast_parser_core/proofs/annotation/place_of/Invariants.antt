use Rattle.std.proofs.Common.{◌≡◌, ◌-◌, true, drop, length, map}
use Rattle.wast_grammar.specs.Spelling.{any_is}
use Rattle.wast_parser_core.proofs.annotation.place_of.Given as goal

abbrev pub invariant-names : goal.invariant-names
invariant-names l = any_is l.name (map (λ n. n.now) (drop l.i l.names)) ≡ true

abbrev pub decreases-names : goal.decreases-names
decreases-names l = length l.names - l.i
