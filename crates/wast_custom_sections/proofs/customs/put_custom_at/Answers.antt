use Rattle.std.proofs.Common.{◌≡◌, true, false, List, Ok, sym, subst, flat_map}
use Rattle.std.specs.Prelude.{All}
use Rattle.wasm_encoder_base.specs.Encodes.{Encodes}
use Rattle.wasm_encoder_custom.specs.Custom.{Custom, CustomFits}
use Rattle.wast_customs.specs.CustomTree.{place_of}
use Rattle.wast_customs.specs.CustomViews.{custom_tree, place_tree}
use Rattle.wast_meant.specs.CustomsMeant.{custom_of, same_place}
use Rattle.wast_custom_sections.specs.Parts.{section_bytes}
use Rattle.wast_custom_sections.proofs.Placed.{stands_there, stands_elsewhere, one_encodes, none_encodes}
use Rattle.wast_custom_sections.proofs.customs.put_custom_at.Goals as goal

pub returns-then-is_same_place : goal.returns-then-is_same_place
returns-then-is_same_place c =
    let x = custom_tree c.args.custom.now in
    let p = place_tree c.args.place in
    let same : same_place p (place_of x) ≡ true = cc in
    subst (λ (cs : List Custom). Encodes (flat_map section_bytes cs) (All CustomFits cs) c.args.sink.now.items c.put_custom.new.sink.items c.put_custom.result) (sym (stands_there p x same)) (one_encodes (custom_of x) c.put_custom.ensures)

pub returns-else-is_same_place : goal.returns-else-is_same_place
returns-else-is_same_place c =
    let x = custom_tree c.args.custom.now in
    let p = place_tree c.args.place in
    let other : same_place p (place_of x) ≡ false = cc in
    let sink = c.args.sink.now.items in
    subst (λ (cs : List Custom). Encodes (flat_map section_bytes cs) (All CustomFits cs) sink sink (Ok tt)) (sym (stands_elsewhere p x other)) (none_encodes sink)
