use Rattle.std.proofs.Common.{◌≡◌, map}
use Rattle.wast_customs.specs.Dylink.{joined}
use Rattle.wast_customs.specs.CustomViews.{subsection_tree}
use Rattle.wast_customs.proofs.dylink_syntax.join.Given as goal

abbrev pub invariant-loop-group : goal.invariant-loop-group
invariant-loop-group l = map subsection_tree l.subsections.items ≡ joined (map subsection_tree l.yielded)
