-- Limits, and the types of functions, tables, memories, globals and tags that are imported (WebAssembly 3.0, 5.3). Shared
-- limits and globals are those of the proposal on threads, page sizes those of the proposal on page sizes.
use Rattle.std.specs.Prelude.{ℕ, ◌+◌, Bool, true, false, List, [], ◌∷◌, ◌++◌, Option, is_some}
use Rattle.wasm_encoder_base.specs.Bytes.{optional}
use Rattle.wasm_encoder_base.specs.Leb.{uleb}
use Rattle.wasm_encoder_base.specs.Types.{RefType, ValType, ref_bytes, val_bytes}

-- how large a table or memory is, and what its addresses and pages are
pub record Limits : Type 0 where
  pub minimum : ℕ
  pub maximum : Option ℕ
  pub shared : Bool
  pub is_64 : Bool
  pub page_size_log2 : Option ℕ

pub record TableType : Type 0 where
  pub element_type : RefType
  pub limits : Limits

pub record GlobalType : Type 0 where
  pub val_type : ValType
  pub mutable : Bool
  pub shared : Bool

-- a function or a tag is the index of its type
pub data EntityType : Type 0 where
  FunctionEntity : ℕ → EntityType
  TableEntity : TableType → EntityType
  MemoryEntity : Limits → EntityType
  GlobalEntity : GlobalType → EntityType
  TagEntity : ℕ → EntityType

-- a bit that is set or not
abbrev pub flag : Bool → ℕ → ℕ
flag true bit = bit
flag false bit = 0

-- 1 maximum, 2 shared, 4 addresses of 64 bits, 8 page size
abbrev pub limits_flags : Limits → ℕ
limits_flags l = flag (is_some l.maximum) 1 + flag l.shared 2 + flag l.is_64 4 + flag (is_some l.page_size_log2) 8

abbrev pub limits_bytes : Limits → List ℕ
limits_bytes l = limits_flags l ∷ (uleb l.minimum ++ (optional uleb l.maximum ++ optional uleb l.page_size_log2))

abbrev pub table_bytes : TableType → List ℕ
table_bytes t = ref_bytes t.element_type ++ limits_bytes t.limits

-- 1 mutable, 2 shared
abbrev pub global_flags : GlobalType → ℕ
global_flags g = flag g.mutable 1 + flag g.shared 2

abbrev pub global_bytes : GlobalType → List ℕ
global_bytes g = val_bytes g.val_type ++ global_flags g ∷ []

-- a tag is an exception of a function type
abbrev pub tag_bytes : ℕ → List ℕ
tag_bytes index = 0x00 ∷ uleb index

abbrev pub entity_bytes : EntityType → List ℕ
entity_bytes (FunctionEntity index) = 0x00 ∷ uleb index
entity_bytes (TableEntity t) = 0x01 ∷ table_bytes t
entity_bytes (MemoryEntity l) = 0x02 ∷ limits_bytes l
entity_bytes (GlobalEntity g) = 0x03 ∷ global_bytes g
entity_bytes (TagEntity index) = 0x04 ∷ tag_bytes index
