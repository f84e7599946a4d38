use Rattle.std.proofs.lemmas.Result.{err_from_is_err_and}
use Rattle.wasm_encoder_sections.proofs.Refused.{unwritten}
use Rattle.wast_section_items.proofs.adding.add_active_data.Goals as goal

pub returns-in_err-section : goal.returns-in_err-section
returns-in_err-section c =
    let p = err_from_is_err_and c.from_residual.result c.from_residual.ensures.1 in
    rw (p.1, p.2) (unwritten _ _ _ _ _ c.active.result c.in_err-section.field-0.0 c.in_err-section.was c.active.follows.holds-at-none c.active.ensures.adds.too_large (λ room fit. (room, fit)))
