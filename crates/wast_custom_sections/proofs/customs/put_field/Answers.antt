use Rattle.std.proofs.Common.{List, Ok, sym, subst, flat_map}
use Rattle.std.specs.Prelude.{All}
use Rattle.wasm_encoder_base.specs.Encodes.{Encodes}
use Rattle.wasm_encoder_custom.specs.Custom.{Custom, CustomFits}
use Rattle.wast_customs.specs.CustomViews.{place_tree}
use Rattle.wast_custom_sections.specs.Parts.{section_bytes}
use Rattle.wast_custom_sections.proofs.Placed.{no_custom, none_encodes}
use Rattle.wast_custom_sections.proofs.customs.put_field.Goals as goal

pub returns-in_default : goal.returns-in_default
returns-in_default c =
    let sink = c.args.sink.now.items in
    subst (λ (cs : List Custom). Encodes (flat_map section_bytes cs) (All CustomFits cs) sink sink (Ok tt)) (sym (no_custom c.args.field.now c.in_default.not-Custom (place_tree c.args.place))) (none_encodes sink)
