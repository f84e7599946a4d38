use Rattle.std.proofs.Common.{◌≡◌, map, take}
use Rattle.wasm_encoder_base.specs.Lists.{listed}
use Rattle.wasm_encoder_custom.specs.Producers.{producer_bytes}
use Rattle.wast_customs.specs.CustomViews.{kind_view, producer_tree}
use Rattle.wast_meant.specs.CustomsMeant.{producers_field}
use Rattle.wast_custom_sections.proofs.producers.values_of.Given as goal

abbrev pub invariant-loop-producer : goal.invariant-loop-producer
invariant-loop-producer l = l.field ≡ listed producer_bytes (producers_field (map producer_tree (take l.producer-index l.producers)) (kind_view l.kind)).values
