use Rattle.std.proofs.Common.{◌≡◌, ◌<◌, map, length, slice_index_or, arith}
use Rattle.wasm_encoder_base.specs.Types.{IsSubType}
use Rattle.wasm_encoder_base.specs.Views.{sub_view}
use Rattle.wast_core_types.specs.TypeViews.{item_tree}
use Rattle.wast_conversions.specs.Types.{sub_meant}
use Rattle.wast_conversions.specs.Resolved.{TypeResolved}
use Rattle.wast_conversions.specs.Covered.{type_forms}
use Rattle.wast_conversions.proofs.Each.{of_item, none_of_item, more_meant, more_viewed, one_more, each_meant}
use Rattle.wast_section_items.proofs.type_item.sub_types.Goals as goal

pub sub_type-requires-clause-resolved : goal.sub_type-requires-clause-resolved
sub_type-requires-clause-resolved c =
    let l : c.loop-item.item-index < length c.args.types.now = omega arith in
    let e : c.item-item.result ≡ slice_index_or c.args.types.now c.loop-item.item-index c.item-item.result = cc in
    of_item (λ t. TypeResolved t.definition) item_tree c.args.types.now c.loop-item.item-index c.item-item.result l e c.requires.resolved

pub sub_type-requires-clause-covered : goal.sub_type-requires-clause-covered
sub_type-requires-clause-covered c =
    let l : c.loop-item.item-index < length c.args.types.now = omega arith in
    let e : c.item-item.result ≡ slice_index_or c.args.types.now c.loop-item.item-index c.item-item.result = cc in
    none_of_item (λ t. type_forms t.definition) item_tree c.args.types.now c.loop-item.item-index c.item-item.result l e c.requires.covered

pub loop-item-preserved : goal.loop-item-preserved
loop-item-preserved c = record {
  same = more_meant (λ t. sub_meant t.definition) item_tree c.args.types.now c.loop-item.item-index c.item-item.result (map sub_view c.loop-item.definitions.items) (map sub_view c.push.new.self.items) (sub_view c.in_ok-sub_type.field-0) c.loop-item-test.true c.item-item.is
      c.loop-item.invariant.same c.in_ok-sub_type.ensures.same (more_viewed sub_view c.loop-item.definitions.items c.push.new.self.items c.in_ok-sub_type.field-0 c.in_ok-push.ensures.items);
  sound = one_more (λ t. IsSubType (sub_meant (item_tree t).definition)) c.args.types.now c.loop-item.item-index c.item-item.result c.loop-item-test.true c.item-item.is c.loop-item.invariant.sound c.in_ok-sub_type.ensures.sound;
}

pub returns-clause-sound : goal.returns-clause-sound
returns-clause-sound c = each_meant IsSubType (λ t. sub_meant t.definition) item_tree c.args.types.now c.loop-item.item-index c.loop-item-test.false c.loop-item.invariant.sound
