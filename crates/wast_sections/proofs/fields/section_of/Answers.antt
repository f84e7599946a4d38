use Rattle.std.proofs.Common.{◌<◌, length, map, arith}
use Rattle.std.specs.List.{flat_map}
use Rattle.std.proofs.lemmas.Result.{err_from_is_err_and}
use Rattle.wast_module_fields.specs.ModuleFieldViews.{field_tree}
use Rattle.wast_sections.proofs.Holding.{too_large_at, refused}
use Rattle.wast_sections.proofs.fields.section_of.Goals as goal

pub returns-in_err-put : goal.returns-in_err-put
returns-in_err-put g c =
    let k = g.K.FieldItems in
    let fs = c.args.fields.now in
    let e = c.in_err-put.field-0.0 in
    let l : c.loop-field.field-index < length fs = omega arith in
    let p = err_from_is_err_and c.from_residual.result c.from_residual.ensures.1 in
    rw (p.1, p.2) (refused k.spell k.Fits k.Sound k.listed (flat_map k.items (map field_tree fs)) e
    (too_large_at k.spell k.Fits k.Sound field_tree k.items fs c.loop-field.field-index c.field-item.result _ _ c.put.result e l c.field-item.is c.in_err-put.was c.loop-field.invariant c.put.ensures))
