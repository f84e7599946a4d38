-- Memory arguments (WebAssembly 3.0, 5.4).
use Rattle.std.specs.Prelude.{ℕ, ◌<◌}
use Rattle.wasm_encoder_base.specs.Instr as binary
use Rattle.wasm_encoder_instr.specs.declared.mem_arg.MemArg.{MemArg}
use Rattle.wasm_encoder_instr.specs.declared.mem_arg.MemArgTarget.{MemArgTarget}
use Rattle.wasm_encoder_instr.specs.declared.mem_arg.MemArgTarget.TheVariants.{Memory}

-- the index of the memory
abbrev pub memory_view : MemArgTarget → ℕ
memory_view (Memory index) = index

-- the same argument
abbrev pub mem_arg_view : MemArg → binary.MemArg
mem_arg_view m = record { align = m.align; offset = m.offset; memory = memory_view m.target }

-- the logarithm of a memory argument's alignment is below 16
abbrev pub is_aligned : binary.Operands → Type 0
is_aligned (binary.Memory m) = m.align < 16
is_aligned (binary.MemoryLane m lane) = m.align < 16
is_aligned _ = Unit {0}
