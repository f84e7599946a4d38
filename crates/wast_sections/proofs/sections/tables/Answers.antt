use Rattle.std.proofs.Common.{map}
use Rattle.wasm_encoder_base.specs.Instr.{expr_bytes}
use Rattle.wasm_encoder_items.specs.Segments.{table_item}
use Rattle.wasm_layout.specs.IsModule.{IsTable}
use Rattle.wast_module_fields.specs.ModuleFieldViews.{field_tree}
use Rattle.wast_meant.specs.FieldsMeant.{tables_of}
use Rattle.wast_section_items.specs.Fits.{TableFits}
use Rattle.wast_sections.proofs.AllDefined.{holds_defined}
use Rattle.wast_sections.proofs.sections.tables.Goals as goal

pub returns : goal.returns
returns c = holds_defined tables_of (table_item expr_bytes) TableFits IsTable (map field_tree c.args.fields.now) c.section_of.result c.section_of.ensures
