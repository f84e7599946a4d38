-- What private contracts say of instructions that need the count of data segments (WebAssembly 3.0, 5.5.15).
use Rattle.std.specs.Prelude.{Bool, true, false}
use Rattle.std.specs.List.{flat_map, list_any}
use Rattle.wast_core_instr.specs.declared.bulk.BulkOp.{BulkOp}
use Rattle.wast_core_instr.specs.declared.bulk.BulkOp.TheVariants as bulks
use Rattle.wast_core_instr.specs.declared.gc.GcOp.{GcOp}
use Rattle.wast_core_instr.specs.declared.gc.GcOp.TheVariants as gcs
use Rattle.wast_core_instr.specs.declared.instruction.Instruction.{Instruction}
use Rattle.wast_core_instr.specs.declared.instruction.Instruction.TheVariants as instructions
use Rattle.wast_module_fields.specs.FieldTree.{Field}
use Rattle.wasm_layout.specs.Present.{says_data}
use Rattle.wast_meant.specs.FieldsMeant.{defined_in, functions_of}

abbrev pub bulk_of_data : BulkOp → Bool
bulk_of_data (bulks.MemoryInit operands) = true
bulk_of_data (bulks.DataDrop index) = true
bulk_of_data _ = false

abbrev pub gc_of_data : GcOp → Bool
gc_of_data (gcs.ArrayNewData operands) = true
gc_of_data (gcs.ArrayInitData operands) = true
gc_of_data _ = false

abbrev pub is_of_data : Instruction → Bool
is_of_data (instructions.Bulk op) = bulk_of_data op
is_of_data (instructions.Gc op) = gc_of_data op
is_of_data _ = false

-- the functions of a field have such an instruction
abbrev pub field_says_data : {N P : Type 0} → Field N P → Bool
field_says_data f = list_any says_data (flat_map functions_of (defined_in f))
