use Rattle.std.proofs.Common.{◌≡◌, ◌<◌, true, map, length, get_or, ap, sym, ◌∙◌, arith}
use Rattle.std.proofs.lemmas.List.{length-map, get_or-map}
use Rattle.wasm_encoder_base.specs.Table.{same_text}
use Rattle.wast_customs.specs.CustomTree.{Producer}
use Rattle.wast_customs.specs.CustomSyntax.{producer_word}
use Rattle.wast_customs.specs.CustomViews.{kind_view, producer_tree}
use Rattle.wast_custom_sections.proofs.Values.{has_item}
use Rattle.wast_custom_sections.proofs.producers.has_kind.Goals as goal

pub returns-then-is_same_kind : goal.returns-then-is_same_kind
returns-then-is_same_kind c =
    let kind = kind_view c.args.kind in
    let ps = c.args.producers.now in
    let i = c.loop-producer.producer-index in
    let x = c.producer-item.result in
    let within : i < length (map producer_tree ps) = omega (arith, length-map ps producer_tree) in
    let is : producer_tree x ≡ get_or (map producer_tree ps) i (producer_tree x) = ap producer_tree c.producer-item.is ∙ sym (get_or-map producer_tree ps i x (producer_tree x) (omega arith)) in
    let same : same_text (producer_word kind) (producer_word (producer_tree x).kind) ≡ true = cc in
    sym (has_item (λ (p : Producer). same_text (producer_word kind) (producer_word p.kind)) (map producer_tree ps) i (producer_tree x) within is same)
