use Rattle.std.proofs.Common.{map}
use Rattle.wasm_encoder_items.specs.EntityTypes.{limits_bytes}
use Rattle.wasm_layout.specs.IsModule.{IsLimits}
use Rattle.wast_module_fields.specs.ModuleFieldViews.{field_tree}
use Rattle.wast_meant.specs.FieldsMeant.{memories_of}
use Rattle.wast_section_items.specs.Fits.{NoCounts}
use Rattle.wast_sections.proofs.AllDefined.{holds_defined}
use Rattle.wast_sections.proofs.sections.memories.Goals as goal

pub returns : goal.returns
returns c = holds_defined memories_of limits_bytes NoCounts IsLimits (map field_tree c.args.fields.now) c.section_of.result c.section_of.ensures
