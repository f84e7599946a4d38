-- The law that the crate's law function proves.
use Rattle.std.specs.Prelude.{List}
use Rattle.std.specs.List.{AllByRecursion}
use Rattle.wasm_encoder_base.specs.Instr.{Instr, expr_bytes}
use Rattle.wasm_encoder_base.specs.Unique.{Unique, Any}
use Rattle.wasm_encoder_code.specs.Laws.{IsExpression}
use Rattle.wasm_encoder_items.specs.Segments.{EachOfTable, EachOfGlobal, EachOfElements, EachOfData}
use Rattle.wasm_encoder_sections.specs.Sections.{type_section, import_section, function_section, table_section, memory_section, tag_section, global_section, export_section, start_section, element_section, data_count_section, code_section, data_section}

-- A section tells what it holds apart, whatever follows. Each expression is instructions that close the blocks that they open
-- and no other.
pub record IsToldApart : Type 0 where
  pub types : Unique (AllByRecursion Any) type_section
  pub imports : Unique (AllByRecursion Any) import_section
  pub functions : Unique (AllByRecursion Any) function_section
  pub tables : Unique (AllByRecursion (EachOfTable {E = List Instr} IsExpression)) (table_section expr_bytes)
  pub memories : Unique (AllByRecursion Any) memory_section
  pub tags : Unique (AllByRecursion Any) tag_section
  pub globals : Unique (AllByRecursion (EachOfGlobal {E = List Instr} IsExpression)) (global_section expr_bytes)
  pub exports : Unique (AllByRecursion Any) export_section
  pub start : Unique Any start_section
  pub elements : Unique (AllByRecursion (EachOfElements {E = List Instr} IsExpression)) (element_section expr_bytes)
  pub data_count : Unique Any data_count_section
  pub codes : Unique (AllByRecursion Any) code_section
  pub segments : Unique (AllByRecursion (EachOfData {E = List Instr} IsExpression)) (data_section expr_bytes)
