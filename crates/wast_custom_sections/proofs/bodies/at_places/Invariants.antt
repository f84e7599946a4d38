use Rattle.std.proofs.Common.{◌≡◌, map, take}
use Rattle.wast_expressions.specs.Partial.{hint_tree}
use Rattle.wast_custom_sections.specs.Hinted.{among}
use Rattle.wast_custom_sections.proofs.bodies.at_places.Given as goal

abbrev pub invariant-loop-hint : goal.invariant-loop-hint
invariant-loop-hint l = l.placed.items ≡ map (among l.places) (map hint_tree (take l.hint-index l.hints))
