-- Core dumps (tool conventions of WebAssembly): the process, its modules, its instances, and a thread's stack.
use Rattle.std.specs.Prelude.{ℕ, ◌<◌, ◌^◌, List, [], ◌∷◌, ◌++◌, codes}
use Rattle.std.specs.Int.{w32, w64, to_le_bytes}
use Rattle.wasm_encoder_base.specs.Bytes.{counted, sized}
use Rattle.wasm_encoder_base.specs.Ieee.{ieee32_bits, ieee64_bits}
use Rattle.wasm_encoder_base.specs.Leb.{uleb, sleb}
use Rattle.wasm_encoder_base.specs.Lists.{Listed, with_item, list_bytes}
use Rattle.wasm_encoder_custom.specs.Custom.{Custom, custom}
use Rattle.wasm_encoder_custom.specs.declared.dump.CoreDumpValue.{CoreDumpValue}
use Rattle.wasm_encoder_custom.specs.declared.dump.CoreDumpValue.TheVariants.{Missing, I32, I64, F32, F64}

-- a value: its type, and it; floats by their bits, the low byte first
abbrev pub value_bytes : CoreDumpValue → List ℕ
value_bytes Missing = 0x01 ∷ []
value_bytes (I32 value) = 0x7F ∷ sleb value
value_bytes (I64 value) = 0x7E ∷ sleb value
value_bytes (F32 value) = 0x7D ∷ to_le_bytes w32 (ieee32_bits value)
value_bytes (F64 value) = 0x7C ∷ to_le_bytes w64 (ieee64_bits value)

-- floats of 32 and 64 bits
abbrev pub IsValue : CoreDumpValue → Type 0
IsValue (F32 value) = ieee32_bits value < 2 ^ 32
IsValue (F64 value) = ieee64_bits value < 2 ^ 64
IsValue _ = Unit {0}

-- a process or a module by its name
abbrev pub named_bytes : List ℕ → List ℕ
named_bytes name = 0x00 ∷ sized name

pub record Instance : Type 0 where
  pub module_index : ℕ
  pub memories : List ℕ
  pub globals : List ℕ

abbrev pub instance_bytes : Instance → List ℕ
instance_bytes i = 0x00 ∷ uleb i.module_index ++ counted uleb i.memories ++ counted uleb i.globals

pub record Frame : Type 0 where
  pub instance_index : ℕ
  pub function_index : ℕ
  pub code_offset : ℕ
  pub locals : List CoreDumpValue
  pub stack : List CoreDumpValue

abbrev pub frame_bytes : Frame → List ℕ
frame_bytes f = 0x00 ∷ uleb f.instance_index ++ uleb f.function_index ++ uleb f.code_offset ++ counted value_bytes f.locals ++ counted value_bytes f.stack

-- a thread: its name, and its frames as they are built
pub record Thread : Type 0 where
  pub name : List ℕ
  pub frames : Listed

abbrev pub with_frame : Thread → List ℕ → Thread
with_frame thread frame = record { name = thread.name; frames = with_item thread.frames frame }

abbrev pub thread_bytes : Thread → List ℕ
thread_bytes thread = named_bytes thread.name ++ list_bytes thread.frames

-- the sections: a process by its name, lists of modules and of instances, a thread
abbrev pub process_section : List ℕ → Custom
process_section name = custom (codes "core") (named_bytes name)

abbrev pub modules_section : Listed → Custom
modules_section modules = custom (codes "coremodules") (list_bytes modules)

abbrev pub instances_section : Listed → Custom
instances_section instances = custom (codes "coreinstances") (list_bytes instances)

abbrev pub stack_section : Thread → Custom
stack_section thread = custom (codes "corestack") (thread_bytes thread)
