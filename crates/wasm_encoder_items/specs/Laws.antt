-- The laws that the crate's law functions prove.
use Rattle.std.specs.Prelude.{ℕ, ◌≡◌, List}
use Rattle.std.specs.List.{flat_map}
use Rattle.wasm_encoder_base.specs.Bytes.{sized}
use Rattle.wasm_encoder_base.specs.Instr.{Instr, instr_bytes}
use Rattle.wasm_encoder_base.specs.Leb.{uleb}
use Rattle.wasm_encoder_base.specs.Unique.{Unique, Any}
use Rattle.wasm_encoder_code.specs.Body.{IsBody, body_bytes}
use Rattle.wasm_encoder_code.specs.Laws.{IsExpression}
use Rattle.wasm_encoder_items.specs.EntityTypes.{limits_bytes, table_bytes, global_bytes, tag_bytes, entity_bytes}
use Rattle.wasm_encoder_items.specs.Imports.{imports_bytes, export_bytes}
use Rattle.wasm_encoder_items.specs.Segments.{EachOfElements, element_bytes, EachOfData, data_bytes, EachOfTable, table_item, EachOfGlobal, global_item}
use Rattle.wasm_encoder_items.specs.TypeEntries.{entry_bytes}

-- Types of tables, memories, globals and tags are told apart by their bytes, whatever follows.
abbrev pub OneLimits : Type 0
OneLimits = Unique Any limits_bytes

abbrev pub OneTableType : Type 0
OneTableType = Unique Any table_bytes

abbrev pub OneGlobalType : Type 0
OneGlobalType = Unique Any global_bytes

abbrev pub OneTagType : Type 0
OneTagType = Unique Any tag_bytes

abbrev pub OneEntityType : Type 0
OneEntityType = Unique Any entity_bytes

-- So are the items of sections: types and groups of them,
abbrev pub OneTypeEntry : Type 0
OneTypeEntry = Unique Any entry_bytes

-- imports and groups of them,
abbrev pub OneImports : Type 0
OneImports = Unique Any imports_bytes

-- the types of functions, by their indices,
abbrev pub OneFunctionType : Type 0
OneFunctionType = Unique Any uleb

-- tables with and without initialiser,
abbrev pub OneTable : {E : Type 0} → (E → Type 0) → (E → List ℕ) → Type 0
OneTable P spell = Unique (EachOfTable P) (table_item spell)

-- globals,
abbrev pub OneGlobal : {E : Type 0} → (E → Type 0) → (E → List ℕ) → Type 0
OneGlobal P spell = Unique (EachOfGlobal P) (global_item spell)

-- exports,
abbrev pub OneExport : Type 0
OneExport = Unique Any export_bytes

-- element segments, each taken as its flag and parts,
abbrev pub OneElementSegment : {E : Type 0} → (E → Type 0) → (E → List ℕ) → Type 0
OneElementSegment P spell = Unique (EachOfElements P) (element_bytes spell)

-- bodies of functions,
abbrev pub OneCode : Type 0
OneCode = Unique IsBody (λ body. sized (body_bytes body))

-- and data segments. Limits are the items of memory sections, and types of tags those of tag sections.
abbrev pub OneDataSegment : {E : Type 0} → (E → Type 0) → (E → List ℕ) → Type 0
OneDataSegment P spell = Unique (EachOfData P) (data_bytes spell)

-- Expressions are told apart where they are instructions that close the blocks that they open and no other, or the bytes
-- of such.
pub record IsExpressionBytes (bytes : List ℕ) : Type 0 where
  pub instructions : List Instr
  pub is_expression : IsExpression instructions
  pub spelled : bytes ≡ flat_map instr_bytes instructions
