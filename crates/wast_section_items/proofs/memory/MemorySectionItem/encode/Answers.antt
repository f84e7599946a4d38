use Rattle.std.proofs.Common.{ap}
use Rattle.wasm_encoder_items.specs.EntityTypes.{limits_bytes}
use Rattle.wasm_layout.specs.IsModule.{IsLimits}
use Rattle.wast_section_items.specs.Fits.{NoCounts}
use Rattle.wast_section_items.proofs.Appending.{appends_one}
use Rattle.wast_section_items.proofs.memory.MemorySectionItem.encode.Goals as goal

pub returns : goal.returns
returns c =
    rw (c.in-Normal.is) (appends_one limits_bytes NoCounts IsLimits _ _ _ _ _ c.add_memory.result (ap limits_bytes c.memory_type.ensures.same) (λ h. tt) (λ h. tt) c.memory_type.ensures.sound c.add_memory.ensures)
