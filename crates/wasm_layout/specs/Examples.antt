-- Modules and their bytes, by hand.
use Rattle.std.specs.Prelude.{ℕ, pos, ◌≡◌, List, [], ◌∷◌, ◌++◌, None, codes}
use Rattle.wasm_encoder_base.specs.Types.{FuncType, Function as FunctionType}
use Rattle.wasm_encoder_base.specs.Instr.{Instr, NoOperands, Index, Block, NoResult, I32}
use Rattle.wasm_encoder_items.specs.EntityTypes.{FunctionEntity}
use Rattle.wasm_encoder_items.specs.Imports.{One}
use Rattle.wasm_encoder_items.specs.Segments.{PassiveData}
use Rattle.wasm_encoder_items.specs.TypeEntries.{plain}
use Rattle.wasm_encoder_custom.specs.Custom.{custom}
use Rattle.wasm_encoder_custom.specs.Names.{Space, Functions}
use Rattle.wasm_encoder.specs.Module.{header}
use Rattle.wasm_layout.specs.AbstractModule.{Function, Naming, NameMaps, AbstractModule}
use Rattle.wasm_layout.specs.Layout.{function_at, layout}
use Rattle.wasm_layout.specs.Lays.{Reads, no_names, bare}

abbrev pub empty : AbstractModule (List ℕ)
empty = record {
  types = [];
  imports = [];
  functions = [];
  tables = [];
  memories = [];
  tags = [];
  globals = [];
  exports = [];
  start = None;
  elements = [];
  datas = [];
  names = no_names;
  hints = [];
  customs = [] ∷ [];
}

abbrev pub no_params : FuncType
no_params = record { params = []; results = [] }

abbrev pub function : List Instr → Function
function is = record { type_index = 0; body = record { locals = []; instructions = is } }

-- i32.const 1, if, end, nop, and data.drop 0
abbrev pub one : Instr
one = record { opcode = 0x41 ∷ []; operands = I32 (pos 1) }

abbrev pub if_block : Instr
if_block = record { opcode = 0x04 ∷ []; operands = Block NoResult }

abbrev pub end : Instr
end = record { opcode = 0x0B ∷ []; operands = NoOperands }

abbrev pub nop : Instr
nop = record { opcode = 0x01 ∷ []; operands = NoOperands }

abbrev pub drop_data : Instr
drop_data = record { opcode = 0xFC ∷ 0x09 ∷ []; operands = Index 0 }

-- function 0 is called "f"
abbrev pub called_f : Space → List (Naming (List ℕ))
called_f Functions = record { index = 0; name = codes "f" } ∷ []
called_f space = []

abbrev pub only_f : NameMaps (List ℕ)
only_f = record no_names { items = called_f }

-- (module (func $f i32.const 1 (@metadata.code.branch_hint "\01") if end) (@custom "x" (before func) "ab"))
abbrev pub hinted : AbstractModule (List ℕ)
hinted = record empty {
  types = plain (FunctionType no_params) ∷ [];
  functions = function (one ∷ if_block ∷ end ∷ []) ∷ [];
  names = only_f;
  hints = record { function = 0; hints = record { index = 1; value = 1 } ∷ [] } ∷ [];
  customs = [] ∷ (custom (codes "x") (codes "ab") ∷ []) ∷ [] ∷ [] ∷ [] ∷ [] ∷ [];
}

-- (module (import "" "" (func)) (func nop (@metadata.code.branch_hint "\01") nop))
abbrev pub hinted_second : AbstractModule (List ℕ)
hinted_second = record empty {
  types = plain (FunctionType no_params) ∷ [];
  imports = One (record { module_name = []; name = []; type = FunctionEntity 0 }) ∷ [];
  functions = function (nop ∷ nop ∷ []) ∷ [];
  hints = record { function = 1; hints = record { index = 1; value = 1 } ∷ [] } ∷ [];
  customs = [] ∷ [] ∷ [] ∷ [] ∷ [] ∷ [] ∷ [];
}

-- (module (data "a") (func data.drop 0))
abbrev pub counted_datas : AbstractModule (List ℕ)
counted_datas = record empty {
  types = plain (FunctionType no_params) ∷ [];
  functions = function (drop_data ∷ []) ∷ [];
  datas = PassiveData (codes "a") ∷ [];
  customs = [] ∷ [] ∷ [] ∷ [] ∷ [] ∷ [] ∷ [];
}

-- (module (func $f) (@custom "name" "")), and (module (func $f) (@custom "y" (after data)) (@custom "z"))
abbrev pub own_names : AbstractModule (List ℕ)
own_names = record empty {
  types = plain (FunctionType no_params) ∷ [];
  functions = function [] ∷ [];
  names = only_f;
  customs = [] ∷ [] ∷ [] ∷ (custom (codes "name") [] ∷ []) ∷ [];
}

abbrev pub around_names : AbstractModule (List ℕ)
around_names = record own_names { customs = [] ∷ [] ∷ [] ∷ (custom (codes "y") [] ∷ []) ∷ (custom (codes "z") [] ∷ []) ∷ [] }

pub record LayoutExamples : Type 0 where
  pub nothing : layout empty ≡ header
  pub hints : layout hinted ≡ header ++ (
      (0x01 ∷ 0x04 ∷ 0x01 ∷ 0x60 ∷ 0x00 ∷ 0x00 ∷ [])
      ++ (0x00 ∷ 0x04 ∷ 0x01 ∷ 0x78 ∷ 0x61 ∷ 0x62 ∷ [])
      ++ (0x03 ∷ 0x02 ∷ 0x01 ∷ 0x00 ∷ [])
      ++ (0x00 ∷ 0x20 ∷ 0x19 ∷ []) ++ codes "metadata.code.branch_hint" ++ (0x01 ∷ 0x00 ∷ 0x01 ∷ 0x03 ∷ 0x01 ∷ 0x01 ∷ [])
      ++ (0x0A ∷ 0x09 ∷ 0x01 ∷ 0x07 ∷ 0x00 ∷ 0x41 ∷ 0x01 ∷ 0x04 ∷ 0x40 ∷ 0x0B ∷ 0x0B ∷ [])
      ++ (0x00 ∷ 0x0B ∷ 0x04 ∷ []) ++ codes "name" ++ (0x01 ∷ 0x04 ∷ 0x01 ∷ 0x00 ∷ 0x01 ∷ 0x66 ∷ []))
  -- it is read
  pub read : Reads (layout hinted) hinted
  -- an imported function has no body
  pub imported : function_at hinted_second 0 ≡ None
  pub second : layout hinted_second ≡ header ++ (
      (0x01 ∷ 0x04 ∷ 0x01 ∷ 0x60 ∷ 0x00 ∷ 0x00 ∷ [])
      ++ (0x02 ∷ 0x05 ∷ 0x01 ∷ 0x00 ∷ 0x00 ∷ 0x00 ∷ 0x00 ∷ [])
      ++ (0x03 ∷ 0x02 ∷ 0x01 ∷ 0x00 ∷ [])
      ++ (0x00 ∷ 0x20 ∷ 0x19 ∷ []) ++ codes "metadata.code.branch_hint" ++ (0x01 ∷ 0x01 ∷ 0x01 ∷ 0x02 ∷ 0x01 ∷ 0x01 ∷ [])
      ++ (0x0A ∷ 0x06 ∷ 0x01 ∷ 0x04 ∷ 0x00 ∷ 0x01 ∷ 0x01 ∷ 0x0B ∷ []))
  pub data_count : layout counted_datas ≡ header ++ (
      (0x01 ∷ 0x04 ∷ 0x01 ∷ 0x60 ∷ 0x00 ∷ 0x00 ∷ [])
      ++ (0x03 ∷ 0x02 ∷ 0x01 ∷ 0x00 ∷ [])
      ++ (0x0C ∷ 0x01 ∷ 0x01 ∷ [])
      ++ (0x0A ∷ 0x07 ∷ 0x01 ∷ 0x05 ∷ 0x00 ∷ 0xFC ∷ 0x09 ∷ 0x00 ∷ 0x0B ∷ [])
      ++ (0x0B ∷ 0x04 ∷ 0x01 ∷ 0x01 ∷ 0x01 ∷ 0x61 ∷ []))
  -- a custom section called `name` keeps that of the name maps away
  pub names_away : layout own_names ≡ header ++ (
      (0x01 ∷ 0x04 ∷ 0x01 ∷ 0x60 ∷ 0x00 ∷ 0x00 ∷ [])
      ++ (0x03 ∷ 0x02 ∷ 0x01 ∷ 0x00 ∷ [])
      ++ (0x0A ∷ 0x04 ∷ 0x01 ∷ 0x02 ∷ 0x00 ∷ 0x0B ∷ [])
      ++ (0x00 ∷ 0x05 ∷ 0x04 ∷ []) ++ codes "name")
  -- without names two gaps are one
  pub joined_gap : (bare around_names).customs ≡ [] ∷ [] ∷ [] ∷ (custom (codes "y") [] ∷ custom (codes "z") [] ∷ []) ∷ []
