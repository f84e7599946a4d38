-- Which instructions have memory arguments.
use Rattle.std.specs.Prelude.{None}
use Rattle.std.proofs.Common.{◌≡◌, refl}
use Rattle.wast_core_instr.specs.InstructionTree.{mem_arg_in}
use Rattle.wast_core_instr.specs.InstructionViews.{bulk_operands, gc_operands, proposal_operands, instruction_operands}
use Rattle.wast_core_instr.specs.declared.instruction.Instruction.{Instruction}
use Rattle.wast_core_instr.specs.declared.instruction.Instruction.TheVariants as instructions
use Rattle.wast_core_instr.specs.declared.bulk.BulkOp.{BulkOp}
use Rattle.wast_core_instr.specs.declared.bulk.BulkOp.TheVariants as bulks
use Rattle.wast_core_instr.specs.declared.gc.GcOp.{GcOp}
use Rattle.wast_core_instr.specs.declared.gc.GcOp.TheVariants as gcs
use Rattle.wast_core_instr.specs.declared.proposal.ProposalOp.{ProposalOp}
use Rattle.wast_core_instr.specs.declared.proposal.ProposalOp.TheVariants as proposals

bulk_none : (op : BulkOp) → None ≡ mem_arg_in (bulk_operands op)
bulk_none (bulks.DataDrop x) = refl
bulk_none op = refl

gc_none : (op : GcOp) → None ≡ mem_arg_in (gc_operands op)
gc_none gcs.RefEq = refl
gc_none op = refl

proposal_none : (op : ProposalOp) → None ≡ mem_arg_in (proposal_operands op)
proposal_none proposals.Pause = refl
proposal_none op = refl

pub other_memarg : (i : Instruction) → ((x y : _) → i ≡ instructions.Access x y → ⊥) → ((x y : _) → i ≡ instructions.Atomic x y → ⊥) → ((x y : _) → i ≡ instructions.AtomicRmw x y → ⊥) → ((x : _) → i ≡ instructions.VectorArg x → ⊥) → None ≡ mem_arg_in (instruction_operands i)
other_memarg (instructions.Access x y) a b c d = absurd (a x y refl)
other_memarg (instructions.Atomic x y) a b c d = absurd (b x y refl)
other_memarg (instructions.AtomicRmw x y) a b c d = absurd (c x y refl)
other_memarg (instructions.VectorArg x) a b c d = absurd (d x refl)
other_memarg (instructions.Bulk op) a b c d = bulk_none op
other_memarg (instructions.Gc op) a b c d = gc_none op
other_memarg (instructions.Proposal op) a b c d = proposal_none op.value
other_memarg i a b c d = refl
