-- Imports and exports (WebAssembly 3.0, 5.5.5 and 5.5.10); groups of imports that share a module name, or that and a type.
use Rattle.std.specs.Prelude.{ℕ, List, ◌∷◌, ◌++◌}
use Rattle.wasm_encoder_base.specs.Leb.{uleb}
use Rattle.wasm_encoder_base.specs.Bytes.{counted, sized}
use Rattle.wasm_encoder_items.specs.EntityTypes.{EntityType, entity_bytes}

-- names are their bytes
pub record Import : Type 0 where
  pub module_name : List ℕ
  pub name : List ℕ
  pub type : EntityType

pub record Named : Type 0 where
  pub name : List ℕ
  pub type : EntityType

-- one entry of the section: an import, or a group
pub data Imports : Type 0 where
  One : Import → Imports
  OfModule : (module_name : List ℕ) → List Named → Imports
  OfType : (module_name : List ℕ) → EntityType → (names : List (List ℕ)) → Imports

abbrev pub named_bytes : Named → List ℕ
named_bytes n = sized n.name ++ entity_bytes n.type

abbrev pub import_bytes : Import → List ℕ
import_bytes i = sized i.module_name ++ (sized i.name ++ entity_bytes i.type)

-- a group has an empty name and 7F or 7E where an import has its name and type
abbrev pub imports_bytes : Imports → List ℕ
imports_bytes (One i) = import_bytes i
imports_bytes (OfModule module_name items) = sized module_name ++ (0x00 ∷ 0x7F ∷ counted named_bytes items)
imports_bytes (OfType module_name type names) = sized module_name ++ (0x00 ∷ 0x7E ∷ (entity_bytes type ++ counted sized names))

pub data ExportKind : Type 0 where
  FuncExport : ExportKind
  TableExport : ExportKind
  MemoryExport : ExportKind
  GlobalExport : ExportKind
  TagExport : ExportKind

pub record Export : Type 0 where
  pub name : List ℕ
  pub kind : ExportKind
  pub index : ℕ

abbrev pub export_code : ExportKind → ℕ
export_code FuncExport = 0x00
export_code TableExport = 0x01
export_code MemoryExport = 0x02
export_code GlobalExport = 0x03
export_code TagExport = 0x04

abbrev pub export_bytes : Export → List ℕ
export_bytes e = sized e.name ++ (export_code e.kind ∷ uleb e.index)
