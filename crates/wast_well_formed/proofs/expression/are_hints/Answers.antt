use Rattle.std.proofs.Common.{map}
use Rattle.wast_expressions.specs.Partial.{hint_tree}
use Rattle.wast_meaning.proofs.Hints.{hints_same}
use Rattle.wast_well_formed.proofs.expression.are_hints.Goals as goal

pub loop-hint-init : goal.loop-hint-init
loop-hint-init c = hints_same c.args.len (map hint_tree c.args.hints.now)
