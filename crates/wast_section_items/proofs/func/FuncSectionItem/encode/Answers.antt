use Rattle.std.proofs.Common.{ap}
use Rattle.wasm_encoder_base.specs.Leb.{uleb}
use Rattle.wast_section_items.specs.Fits.{NoCounts}
use Rattle.wast_section_items.specs.Sound.{TypeSound}
use Rattle.wast_section_items.proofs.Appending.{appends_one}
use Rattle.wast_section_items.proofs.func.FuncSectionItem.encode.Goals as goal

pub returns : goal.returns
returns c =
    rw (c.in-Inline.is) (appends_one (λ f. uleb f.type_index) NoCounts TypeSound _ _ _ _ _ c.add_function.result (ap uleb c.type_index.ensures.same) (λ h. tt) (λ h. tt) c.type_index.ensures.sound c.add_function.ensures)
