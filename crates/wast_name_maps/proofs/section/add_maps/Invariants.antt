use Rattle.wast_name_maps.specs.Kinds.{maps_of}
use Rattle.wast_name_maps.proofs.Ordered.{Done}
use Rattle.wast_name_maps.proofs.section.add_maps.Given as goal

abbrev pub invariant-loop-kind : goal.invariant-loop-kind
invariant-loop-kind l = Done (maps_of l.name l.id l.fields) l.fn.section l.section l.kind-index
