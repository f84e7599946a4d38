use Rattle.std.proofs.Common.{ap}
use Rattle.wasm_encoder_items.specs.EntityTypes.{tag_bytes}
use Rattle.wasm_layout.specs.IsModule.{IsU32}
use Rattle.wast_section_items.specs.Fits.{NoCounts}
use Rattle.wast_section_items.proofs.Appending.{appends_one}
use Rattle.wast_section_items.proofs.tag.TagSectionItem.encode.Goals as goal

pub returns : goal.returns
returns c =
    rw (c.in-Inline.is) (appends_one tag_bytes NoCounts IsU32 _ _ _ _ _ c.add_tag.result (ap tag_bytes c.tag_type.ensures.same) (λ h. tt) (λ h. tt) c.tag_type.ensures.sound c.add_tag.ensures)
