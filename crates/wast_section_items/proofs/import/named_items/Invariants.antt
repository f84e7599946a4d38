use Rattle.std.proofs.Common.{◌≡◌, map, take, All}
use Rattle.wasm_encoder_items.specs.Views.{named_view}
use Rattle.wasm_layout.specs.IsModule.{IsEntity}
use Rattle.wast_imports.specs.ImportViews.{member_tree}
use Rattle.wast_conversions.specs.Types.{extern_meant}
use Rattle.wast_section_items.proofs.import.named_items.Given as goal

abbrev pub invariant-loop-member : goal.invariant-loop-member
invariant-loop-member l = record {
  same : map named_view l.items.items ≡ map (λ i. record { name = i.0; type = extern_meant i.1.extern_type }) (map member_tree (take l.member-index l.members));
  sound : All (λ m. IsEntity (extern_meant (member_tree m).1.extern_type)) (take l.member-index l.members);
}
