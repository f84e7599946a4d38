use Rattle.std.proofs.Common.{◌≡◌, [], map, take}
use Rattle.wast_customs.specs.CustomViews.{kind_view, producer_tree}
use Rattle.wast_meant.specs.CustomsMeant.{of_kind}
use Rattle.wast_custom_sections.proofs.producers.has_kind.Given as goal

abbrev pub invariant-loop-producer : goal.invariant-loop-producer
invariant-loop-producer l = of_kind (map producer_tree (take l.producer-index l.producers)) (kind_view l.kind) ≡ []
