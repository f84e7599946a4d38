use Rattle.std.proofs.Common.{sym, ap, ◌∙◌, subst, Some}
use Rattle.wasm_layout.specs.IsModule.{IfThere, IsU32}
use Rattle.wast_module_fields.specs.ModuleFieldViews.{field_tree}
use Rattle.wast_meant.specs.FieldsMeant.{starts_of}
use Rattle.wast_sections.proofs.Starts.{first_item}
use Rattle.wast_sections.proofs.sections.start.Goals as goal

pub returns-in-Start-clause-same : goal.returns-in-Start-clause-same
returns-in-Start-clause-same c =
    let one = ap (λ f. starts_of (field_tree f)) c.in-Start.is in
    ap Some c.index.ensures.same ∙ sym (first_item field_tree starts_of c.args.fields.now c.loop-field.field-index c.field-item.result _ c.loop-field-test.true c.field-item.is c.loop-field.invariant one)

pub returns-in-Start-clause-sound : goal.returns-in-Start-clause-sound
returns-in-Start-clause-sound c =
    let one = ap (λ f. starts_of (field_tree f)) c.in-Start.is in
    subst (IfThere IsU32) (sym (first_item field_tree starts_of c.args.fields.now c.loop-field.field-index c.field-item.result _ c.loop-field-test.true c.field-item.is c.loop-field.invariant one)) c.index.ensures.sound
