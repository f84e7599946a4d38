use Rattle.std.proofs.Common.{List, map, take, ap, arith}
use Rattle.std.proofs.lemmas.Result.{err_from_is_err_and}
use Rattle.wasm_encoder_custom.specs.Producers as binary
use Rattle.wasm_encoder_custom.specs.Producers.{producer_bytes}
use Rattle.wast_customs.specs.CustomTree.{Producer}
use Rattle.wast_customs.specs.CustomViews.{kind_view, producer_tree}
use Rattle.wast_meant.specs.CustomsMeant.{producers_field}
use Rattle.wast_custom_sections.proofs.Errors.{same_error}
use Rattle.wast_custom_sections.proofs.Sizes.{count_size}
use Rattle.wast_custom_sections.proofs.Steps.{step_size}
use Rattle.wast_custom_sections.proofs.Values.{values_append, producer_some}
use Rattle.wast_custom_sections.proofs.producers.values_of.Goals as goal

pub returns-in_err-put_value-clause-too_large : goal.returns-in_err-put_value-clause-too_large
returns-in_err-put_value-clause-too_large c =
    let kind = kind_view c.args.kind in
    let values : List Producer → List binary.Producer = λ ps. (producers_field ps kind).values in
    let ps = c.args.producers.now in
    let i = c.loop-producer.producer-index in
    let size = step_size values (values_append kind) producer_bytes producer_tree ps i c.producer-item.result (omega arith) c.producer-item.is in
    let count = count_size producer_bytes producer_some (values (map producer_tree (take i ps))) in
    let listed = ap (λ l. l.count) c.loop-producer.invariant in
    let r = err_from_is_err_and c.from_residual.result c.from_residual.ensures.1 in
    rw (r.1, r.2) (λ e l. c.in_err-put_value.ensures.too_large (same_error e) (omega arith))
