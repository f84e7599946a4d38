use Rattle.std.proofs.Common.{◌≡◌, map, drop}
use Rattle.wast_expressions.specs.Partial.{hint_tree}
use Rattle.wast_meaning.specs.WellFormed.{are_hints}
use Rattle.wast_meaning.proofs.Hints.{are_hints_from}
use Rattle.wast_well_formed.proofs.expression.are_hints.Given as goal

abbrev pub invariant-loop-hint : goal.invariant-loop-hint
invariant-loop-hint l = are_hints_from l.next l.len (map hint_tree (drop l.hint-index l.hints)) ≡ are_hints l.fn.len (map hint_tree l.fn.hints)
