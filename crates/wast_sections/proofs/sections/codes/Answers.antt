use Rattle.std.proofs.Common.{map}
use Rattle.wasm_encoder_code.specs.Body.{body_bytes}
use Rattle.wasm_encoder_sections.specs.Codes.{function_item}
use Rattle.wast_module_fields.specs.ModuleFieldViews.{field_tree}
use Rattle.wast_meant.specs.FieldsMeant.{functions_of}
use Rattle.wast_section_items.specs.Fits.{BodyFits}
use Rattle.wast_section_items.specs.Sound.{BodySound}
use Rattle.wast_sections.proofs.AllDefined.{holds_defined}
use Rattle.wast_sections.proofs.sections.codes.Goals as goal

pub returns : goal.returns
returns c = holds_defined functions_of (λ f. function_item (body_bytes f.body)) BodyFits BodySound (map field_tree c.args.fields.now) c.section_of.result c.section_of.ensures
