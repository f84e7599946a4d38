use Rattle.std.proofs.Common.{ap}
use Rattle.std.specs.Prelude.{Err}
use Rattle.wasm_encoder_base.specs.Instr.{expr_bytes}
use Rattle.wasm_encoder_items.specs.Segments.{table_item}
use Rattle.wasm_layout.specs.IsModule.{IsTable}
use Rattle.wast_section_items.specs.Fits.{TableFits}
use Rattle.wast_section_items.proofs.Appending.{unappended}
use Rattle.wast_section_items.proofs.Initialized.{adds_table_with_init}
use Rattle.wast_section_items.proofs.table.add_initialized.Goals as goal

pub returns-in-Ok : goal.returns-in-Ok
returns-in-Ok c =
    adds_table_with_init _ c.in-Ok.ensures.same.fit c.in-Ok.ensures.sound _ c.in-Ok.ensures.same.ok _ _ c.add_table_with_init.result _ _ c.table_type.ensures.same c.table_type.ensures.sound c.add_table_with_init.ensures

pub returns-in-Err : goal.returns-in-Err
returns-in-Err c = unappended (table_item expr_bytes) TableFits IsTable _ _ c.in-Err.e (λ t fit. c.in-Err.ensures.same.too_large (ap Err t) fit.0)
