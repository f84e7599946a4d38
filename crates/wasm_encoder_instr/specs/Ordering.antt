-- Orderings of atomic instructions: their bytes.
use Rattle.std.specs.Prelude.{ℕ, List, [], ◌∷◌}
use Rattle.wasm_encoder_instr.specs.declared.ordering.Ordering.{Ordering}
use Rattle.wasm_encoder_instr.specs.declared.ordering.Ordering.TheVariants.{SeqCst, AcqRel}
use Rattle.wasm_encoder_instr.specs.declared.ordering.MemArgOrdering.{MemArgOrdering}
use Rattle.wasm_encoder_instr.specs.declared.ordering.MemArgOrdering.TheVariants.{Op, Rmw}

-- one byte
abbrev pub ordering_bytes : Ordering → List ℕ
ordering_bytes SeqCst = 0x00 ∷ []
ordering_bytes AcqRel = 0x01 ∷ []

-- an instruction that reads and writes has its ordering twice, four bits each
abbrev pub mem_arg_ordering_bytes : MemArgOrdering → List ℕ
mem_arg_ordering_bytes (Op o) = ordering_bytes o
mem_arg_ordering_bytes (Rmw SeqCst) = 0x00 ∷ []
mem_arg_ordering_bytes (Rmw AcqRel) = 0x11 ∷ []
