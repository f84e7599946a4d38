use Rattle.std.proofs.Common.{◌∙◌, map, ap}
use Rattle.std.specs.Prelude.{Err}
use Rattle.wasm_encoder_base.specs.Instr.{expr_bytes}
use Rattle.wasm_encoder_items.specs.Segments.{element_bytes}
use Rattle.wasm_layout.specs.IsModule.{IsElement}
use Rattle.wast_value_types.specs.ValueViews.{ref_tree}
use Rattle.wast_core_instr.specs.ExpressionViews.{expression_tree}
use Rattle.wast_fields.specs.ElemViews.{mode_tree}
use Rattle.wast_section_items.specs.Fits.{ElementFits}
use Rattle.wast_section_items.proofs.Appending.{unappended}
use Rattle.wast_section_items.proofs.Segments.{adds_values, values_inside, each_fits, fits_each}
use Rattle.wast_section_items.proofs.elem.add_values.Goals as goal

pub returns-in-Ok : goal.returns-in-Ok
returns-in-Ok c =
    let es = c.args.exprs.now in
    adds_values (ref_tree c.args.ty.now) (map expression_tree es) (mode_tree c.args.kind.now) _ _ _ _ c.add_elements.result c.ref_type.ensures.same (c.borrowed.ensures ∙ c.deref.ensures.value ∙ c.in-Ok.ensures.ok)
    (each_fits es c.in-Ok.ensures.fits) c.ref_type.ensures.sound c.in-Ok.ensures.sound c.add_elements.ensures.sound c.add_elements.ensures.same

pub returns-in-Err : goal.returns-in-Err
returns-in-Err c =
    let es = c.args.exprs.now in
    unappended (element_bytes expr_bytes) ElementFits IsElement _ _ c.in-Err.e
    (λ t fit. c.in-Err.ensures.too_large (ap Err t) (fits_each es (values_inside (ref_tree c.args.ty.now) (map expression_tree es) (mode_tree c.args.kind.now) fit)))
