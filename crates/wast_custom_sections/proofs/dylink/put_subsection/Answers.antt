use Rattle.std.proofs.Common.{◌<◌, ◌^◌, length, arith, length-append}
use Rattle.std.proofs.lemmas.Result.{err_from_is_err_and}
use Rattle.wasm_encoder_base.specs.Leb.{uleb}
use Rattle.wast_customs.specs.Dylink.{payload}
use Rattle.wast_customs.specs.CustomViews.{subsection_tree}
use Rattle.wast_custom_sections.proofs.Payloads.{payload_fits}
use Rattle.wast_custom_sections.proofs.dylink.put_subsection.Goals as goal

pub returns-in_err-encode-clause-too_large : goal.returns-in_err-encode-clause-too_large
returns-in_err-encode-clause-too_large c =
    let s = subsection_tree c.args.subsection.now in
    let r = err_from_is_err_and c.from_residual.result c.from_residual.ensures.1 in
    rw (r.1, r.2) (λ e l.
    let less : length (payload s) < 2 ^ 32 = omega (arith, length-append (uleb (length (payload s))) (payload s)) in
    c.in_err-encode.ensures.too_large e (payload_fits s less))
