use Rattle.std.proofs.Common.{ap}
use Rattle.std.specs.Prelude.{Err}
use Rattle.wasm_encoder_base.specs.Instr.{expr_bytes}
use Rattle.wasm_encoder_items.specs.Segments.{global_item}
use Rattle.wasm_layout.specs.IsModule.{IsGlobal}
use Rattle.wast_section_items.specs.Fits.{GlobalFits}
use Rattle.wast_section_items.proofs.Appending.{unappended}
use Rattle.wast_section_items.proofs.Initialized.{adds_global}
use Rattle.wast_section_items.proofs.global.add_initialized.Goals as goal

pub returns-in-Ok : goal.returns-in-Ok
returns-in-Ok c =
    adds_global _ c.in-Ok.ensures.same.fit c.in-Ok.ensures.sound _ c.in-Ok.ensures.same.ok _ _ c.add_global.result _ _ c.global_type.ensures.same c.global_type.ensures.sound c.add_global.ensures

pub returns-in-Err : goal.returns-in-Err
returns-in-Err c = unappended (global_item expr_bytes) GlobalFits IsGlobal _ _ c.in-Err.e (λ t fit. c.in-Err.ensures.same.too_large (ap Err t) fit.0)
