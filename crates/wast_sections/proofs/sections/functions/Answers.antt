use Rattle.std.proofs.Common.{map}
use Rattle.wasm_encoder_base.specs.Leb.{uleb}
use Rattle.wast_module_fields.specs.ModuleFieldViews.{field_tree}
use Rattle.wast_meant.specs.FieldsMeant.{functions_of}
use Rattle.wast_section_items.specs.Fits.{NoCounts}
use Rattle.wast_section_items.specs.Sound.{TypeSound}
use Rattle.wast_sections.proofs.AllDefined.{holds_defined}
use Rattle.wast_sections.proofs.sections.functions.Goals as goal

pub returns : goal.returns
returns c = holds_defined functions_of (λ f. uleb f.type_index) NoCounts TypeSound (map field_tree c.args.fields.now) c.section_of.result c.section_of.ensures
