use Rattle.std.proofs.Common.{ap}
use Rattle.std.specs.Prelude.{Err}
use Rattle.wasm_encoder_base.specs.Instr.{expr_bytes}
use Rattle.wasm_encoder_items.specs.Segments.{data_bytes}
use Rattle.wasm_layout.specs.IsModule.{IsData}
use Rattle.wast_section_items.specs.Fits.{DataFits}
use Rattle.wast_section_items.proofs.Appending.{unappended}
use Rattle.wast_section_items.proofs.Segments.{adds_data}
use Rattle.wast_section_items.proofs.data.add_active.Goals as goal

pub returns-in-Ok : goal.returns-in-Ok
returns-in-Ok c =
    adds_data _ c.in-Ok.ensures.same.fit _ c.in-Ok.ensures.same.ok _ _ c.add_active_data.result _ _ _ c.optional_index.ensures.same c.optional_index.ensures.sound c.in-Ok.ensures.sound c.add_active_data.ensures

pub returns-in-Err : goal.returns-in-Err
returns-in-Err c = unappended (data_bytes expr_bytes) DataFits IsData _ _ c.in-Err.e (λ t fit. c.in-Err.ensures.same.too_large (ap Err t) fit.0.0)
