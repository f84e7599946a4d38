-- Bulk instructions on memories and tables, with their operands: opcodes FC 8 to 17. (WebAssembly 3.0, 5.4)
use Rattle.std.specs.Prelude.{◌∷◌, ℕ, List, codes}
use Rattle.wasm_encoder_base.specs.Leb.{uleb}
use Rattle.wasm_encoder_base.specs.Instr.{Instr, Index, Pair, Init}
use Rattle.wasm_encoder_instr.specs.declared.bulk.BulkOp.{BulkOp}
use Rattle.wasm_encoder_instr.specs.declared.bulk.BulkOp.TheVariants as variants

-- the mnemonic of each
abbrev pub bulk_mnemonic : BulkOp → List ℕ
bulk_mnemonic (variants.MemoryInit mem data_index) = codes "memory.init"
bulk_mnemonic (variants.DataDrop index) = codes "data.drop"
bulk_mnemonic (variants.MemoryCopy src_mem dst_mem) = codes "memory.copy"
bulk_mnemonic (variants.MemoryFill index) = codes "memory.fill"
bulk_mnemonic (variants.TableInit elem_index table) = codes "table.init"
bulk_mnemonic (variants.ElemDrop index) = codes "elem.drop"
bulk_mnemonic (variants.TableCopy src_table dst_table) = codes "table.copy"
bulk_mnemonic (variants.TableGrow index) = codes "table.grow"
bulk_mnemonic (variants.TableSize index) = codes "table.size"
bulk_mnemonic (variants.TableFill index) = codes "table.fill"

-- the opcode and the operands of each
abbrev pub bulk_view : BulkOp → Instr
bulk_view (variants.MemoryInit mem data_index) = record { opcode = 0xFC ∷ uleb 8; operands = Init mem data_index }
bulk_view (variants.DataDrop index) = record { opcode = 0xFC ∷ uleb 9; operands = Index index }
bulk_view (variants.MemoryCopy src_mem dst_mem) = record { opcode = 0xFC ∷ uleb 10; operands = Pair dst_mem src_mem }
bulk_view (variants.MemoryFill index) = record { opcode = 0xFC ∷ uleb 11; operands = Index index }
bulk_view (variants.TableInit elem_index table) = record { opcode = 0xFC ∷ uleb 12; operands = Init table elem_index }
bulk_view (variants.ElemDrop index) = record { opcode = 0xFC ∷ uleb 13; operands = Index index }
bulk_view (variants.TableCopy src_table dst_table) = record { opcode = 0xFC ∷ uleb 14; operands = Pair dst_table src_table }
bulk_view (variants.TableGrow index) = record { opcode = 0xFC ∷ uleb 15; operands = Index index }
bulk_view (variants.TableSize index) = record { opcode = 0xFC ∷ uleb 16; operands = Index index }
bulk_view (variants.TableFill index) = record { opcode = 0xFC ∷ uleb 17; operands = Index index }
