use Rattle.std.proofs.Common.{◌≡◌, ◌<◌, map, length, slice_index_or, arith}
use Rattle.wasm_encoder_items.specs.Views.{named_view}
use Rattle.wasm_layout.specs.IsModule.{IsEntity}
use Rattle.wast_imports.specs.ImportViews.{member_tree}
use Rattle.wast_conversions.specs.Types.{extern_meant}
use Rattle.wast_conversions.specs.Resolved.{ExternResolved}
use Rattle.wast_conversions.specs.Covered.{extern_forms}
use Rattle.wast_conversions.proofs.Each.{of_item, none_of_item, more_meant, more_viewed, one_more, each_meant}
use Rattle.wast_section_items.proofs.import.named_items.Goals as goal

pub named_item-requires-clause-resolved : goal.named_item-requires-clause-resolved
named_item-requires-clause-resolved c =
    let l : c.loop-member.member-index < length c.args.members.now = omega arith in
    let e : c.member-item.result ≡ slice_index_or c.args.members.now c.loop-member.member-index c.member-item.result = cc in
    of_item (λ i. ExternResolved i.1.extern_type) member_tree c.args.members.now c.loop-member.member-index c.member-item.result l e c.requires.resolved

pub named_item-requires-clause-covered : goal.named_item-requires-clause-covered
named_item-requires-clause-covered c =
    let l : c.loop-member.member-index < length c.args.members.now = omega arith in
    let e : c.member-item.result ≡ slice_index_or c.args.members.now c.loop-member.member-index c.member-item.result = cc in
    none_of_item (λ i. extern_forms i.1.extern_type) member_tree c.args.members.now c.loop-member.member-index c.member-item.result l e c.requires.covered

pub loop-member-preserved : goal.loop-member-preserved
loop-member-preserved c = record {
  same = more_meant (λ i. record { name = i.0; type = extern_meant i.1.extern_type }) member_tree c.args.members.now c.loop-member.member-index c.member-item.result (map named_view c.loop-member.items.items) (map named_view c.push.new.self.items) (named_view c.named_item.result) c.loop-member-test.true c.member-item.is
      c.loop-member.invariant.same c.named_item.ensures.same (more_viewed named_view c.loop-member.items.items c.push.new.self.items c.named_item.result c.in_ok-push.ensures.items);
  sound = one_more (λ m. IsEntity (extern_meant (member_tree m).1.extern_type)) c.args.members.now c.loop-member.member-index c.member-item.result c.loop-member-test.true c.member-item.is c.loop-member.invariant.sound c.named_item.ensures.sound;
}

pub returns-clause-sound : goal.returns-clause-sound
returns-clause-sound c = each_meant (λ n. IsEntity n.type) (λ i. record { name = i.0; type = extern_meant i.1.extern_type }) member_tree c.args.members.now c.loop-member.member-index c.loop-member-test.false c.loop-member.invariant.sound
