use Rattle.std.proofs.Common.{◌≡◌, map, subst, ap, ◌∙◌}
use Rattle.wasm_encoder_base.specs.Views.{val_view}
use Rattle.wasm_encoder_code.specs.Body.{locals_bytes}
use Rattle.wasm_encoder_code.specs.Locals.{LocalsFit}
use Rattle.wasm_encoder_code.specs.Sink.{IsMade}
use Rattle.wast_module_fields.specs.FuncViews.{local_tree}
use Rattle.wast_conversions.specs.Types.{val_meant}
use Rattle.wast_custom_sections.proofs.bodies.with_locals.Goals as goal

pub returns : goal.returns
returns c =
    let same : map val_view c.deref.result.now ≡ map (λ l. val_meant l.val_type) (map local_tree c.args.locals.now) = ap (map val_view) c.deref.ensures.value ∙ c.in_ok-types.ensures.same in
    let made = c.new_with_locals_types.ensures in
    subst (λ ts. IsMade (locals_bytes ts) (LocalsFit ts) c.new_with_locals_types.result) same (record { ok = made.ok; fit = made.fits; too_large = made.too_large })
