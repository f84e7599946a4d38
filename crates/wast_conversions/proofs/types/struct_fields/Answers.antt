use Rattle.std.proofs.Common.{◌≡◌, ◌<◌, map, length, slice_index_or, arith}
use Rattle.wasm_encoder_base.specs.Types.{IsStorageType}
use Rattle.wasm_encoder_base.specs.Views.{field_view}
use Rattle.wast_signatures.specs.SignatureViews.{struct_field_tree}
use Rattle.wast_conversions.specs.Types.{field_meant}
use Rattle.wast_conversions.specs.Resolved.{StorageResolved}
use Rattle.wast_conversions.specs.Covered.{storage_forms}
use Rattle.wast_conversions.proofs.Each.{of_item, none_of_item, more_meant, more_viewed, one_more, each_meant}
use Rattle.wast_conversions.proofs.types.struct_fields.Goals as goal

pub struct_field-requires-clause-resolved : goal.struct_field-requires-clause-resolved
struct_field-requires-clause-resolved c =
    let l : c.loop-field.field-index < length c.args.fields.now = omega arith in
    let e : c.field-item.result ≡ slice_index_or c.args.fields.now c.loop-field.field-index c.field-item.result = cc in
    of_item (λ f. StorageResolved f.field_type.storage) struct_field_tree c.args.fields.now c.loop-field.field-index c.field-item.result l e c.requires.resolved

pub struct_field-requires-clause-covered : goal.struct_field-requires-clause-covered
struct_field-requires-clause-covered c =
    let l : c.loop-field.field-index < length c.args.fields.now = omega arith in
    let e : c.field-item.result ≡ slice_index_or c.args.fields.now c.loop-field.field-index c.field-item.result = cc in
    none_of_item (λ f. storage_forms f.field_type.storage) struct_field_tree c.args.fields.now c.loop-field.field-index c.field-item.result l e c.requires.covered

pub loop-field-preserved : goal.loop-field-preserved
loop-field-preserved c = record {
  same = more_meant (λ f. field_meant f.field_type) struct_field_tree c.args.fields.now c.loop-field.field-index c.field-item.result (map field_view c.loop-field.types.items) (map field_view c.push.new.self.items) (field_view c.struct_field.result) c.loop-field-test.true c.field-item.is
      c.loop-field.invariant.same c.struct_field.ensures.same (more_viewed field_view c.loop-field.types.items c.push.new.self.items c.struct_field.result c.in_ok-push.ensures.items);
  sound = one_more (λ f. IsStorageType (field_meant (struct_field_tree f).field_type).element_type) c.args.fields.now c.loop-field.field-index c.field-item.result c.loop-field-test.true c.field-item.is c.loop-field.invariant.sound c.struct_field.ensures.sound;
}

pub returns-clause-sound : goal.returns-clause-sound
returns-clause-sound c = each_meant (λ f. IsStorageType f.element_type) (λ f. field_meant f.field_type) struct_field_tree c.args.fields.now c.loop-field.field-index c.loop-field-test.false c.loop-field.invariant.sound
