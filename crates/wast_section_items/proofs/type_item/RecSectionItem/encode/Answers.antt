use Rattle.std.proofs.Common.{List, map, ap, ◌∙◌, subst}
use Rattle.std.specs.List.{AllByRecursion}
use Rattle.wasm_encoder_base.specs.Types.{SubType, IsSubType}
use Rattle.wasm_encoder_base.specs.Views.{sub_view}
use Rattle.wast_core_types.specs.TypeViews.{item_tree}
use Rattle.wast_core_types.specs.declared.definition.TypeItem.{TypeItem}
use Rattle.wast_conversions.specs.Types.{sub_meant}
use Rattle.wast_section_items.proofs.TypeEntries.{adds_group}
use Rattle.wast_section_items.proofs.type_item.RecSectionItem.encode.Goals as goal

pub returns-in-Ok : goal.returns-in-Ok
returns-in-Ok c =
    let all : List TypeItem → List SubType = λ ts. map (λ t. sub_meant t.definition) (map item_tree ts) in
    let same = ap (map sub_view) c.deref-in-Ok.ensures.value ∙ c.in-Ok.ensures.same ∙ ap all c.deref.ensures.value in
    adds_group _ _ _ _ c.add_group.result same (subst (λ ts. AllByRecursion IsSubType (all ts)) c.deref.ensures.value c.in-Ok.ensures.sound) c.add_group.ensures
