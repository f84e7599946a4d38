use Rattle.std.proofs.Common.{[], true, map}
use Rattle.std.specs.Prelude.{option_map}
use Rattle.wast_module_fields.specs.ModuleFieldViews.{field_tree}
use Rattle.wast_meaning.specs.Implied.{written_types}
use Rattle.wast_names.specs.Views.{space}
use Rattle.wast_scopes.specs.Numbered.{numbered_sig}
use Rattle.wast_scopes.specs.Signatures.{func_type, signatures}
use Rattle.wast_scopes.proofs.Adds.{adds_more, adds_all, some_each}
use Rattle.wast_scopes.proofs.signatures.Signatures.written.Goals as goal

pub loop-field-preserved : goal.loop-field-preserved
loop-field-preserved c =
    adds_more (option_map (numbered_sig (space c.args.types.now).look)) (λ x. map func_type (written_types (field_tree x))) [] (signatures c.loop-field.all) (signatures c.add_field.new.self)
    c.args.fields.now c.loop-field.field-index c.field-item.result c.loop-field-test.true c.field-item.is c.loop-field.invariant c.in_ok-add_field.ensures

pub returns : goal.returns
returns c =
    adds_all (option_map (numbered_sig (space c.args.types.now).look)) (λ x. map func_type (written_types (field_tree x))) [] (signatures c.loop-field.all)
    c.args.fields.now c.loop-field.field-index _ c.loop-field-test.false (some_each func_type written_types field_tree c.args.fields.now) c.loop-field.invariant
