use Rattle.std.proofs.Common.{◌≡◌, ◌<◌, ◌^◌, true, length, ap, arith}
use Rattle.std.proofs.lemmas.Result.{err_from_is_err_and}
use Rattle.wasm_encoder_base.specs.Table.{same_text}
use Rattle.wast_customs.specs.CustomSyntax.{producer_word}
use Rattle.wast_customs.specs.CustomViews.{kind_view, producer_tree}
use Rattle.wast_custom_sections.proofs.Errors.{same_error}
use Rattle.wast_custom_sections.proofs.Values.{value_fits}
use Rattle.wast_custom_sections.proofs.producers.put_value.Goals as goal

pub returns-in_err-field-clause-too_large : goal.returns-in_err-field-clause-too_large
returns-in_err-field-clause-too_large c =
    let kind = kind_view c.args.kind in
    let p = producer_tree c.args.producer.now in
    let same : same_text (producer_word kind) (producer_word p.kind) ≡ true = cc in
    let r = err_from_is_err_and c.from_residual.result c.from_residual.ensures.1 in
    rw (r.1, r.2) (λ e l.
    let f = value_fits kind p c.args.field.now.count same l in
    let name : length c.as_str.result.now < 2 ^ 32 = omega (arith, ap length c.as_str.ensures.value, f.1) in
    let version : length c.as_str-then-is_same_kind.result.now < 2 ^ 32 = omega (arith, ap length c.as_str-then-is_same_kind.ensures.value, f.2) in
    c.in_err-field.ensures.adds.too_large (same_error e) (f.0, name, version))
