-- Which groups instructions head.
use Rattle.std.proofs.Common.{◌≡◌, ℕ, List, refl, sym}
use Rattle.wast_expressions.specs.Expressions.{OfOperands}
use Rattle.wast_core_instr.specs.InstructionViews.{bulk_operands, gc_operands, vector_arg_operands, proposal_operands, instruction_tree}
use Rattle.wast_core_instr.specs.InstructionGroups.{group, group_with}
use Rattle.wast_core_instr.specs.declared.instruction.Instruction.{Instruction}
use Rattle.wast_core_instr.specs.declared.instruction.Instruction.TheVariants as instructions
use Rattle.wast_core_instr.specs.declared.bulk.BulkOp.{BulkOp}
use Rattle.wast_core_instr.specs.declared.bulk.BulkOp.TheVariants as bulks
use Rattle.wast_core_instr.specs.declared.gc.GcOp.{GcOp}
use Rattle.wast_core_instr.specs.declared.gc.GcOp.TheVariants as gcs
use Rattle.wast_core_instr.specs.declared.vector_arg.VectorArgOp.{VectorArgOp}
use Rattle.wast_core_instr.specs.declared.vector_arg.VectorArgOp.TheVariants as vector_args
use Rattle.wast_core_instr.specs.declared.proposal.ProposalOp.{ProposalOp}
use Rattle.wast_core_instr.specs.declared.proposal.ProposalOp.TheVariants as proposals
use Rattle.wast_core_instr.proofs.GroupLaws.{try_is}

bulk_none : (op : BulkOp) (w : List ℕ) → group_with (bulk_operands op) w ≡ OfOperands
bulk_none (bulks.DataDrop x) w = refl
bulk_none op w = refl

gc_none : (op : GcOp) (w : List ℕ) → group_with (gc_operands op) w ≡ OfOperands
gc_none gcs.RefEq w = refl
gc_none op w = refl

vector_arg_none : (op : VectorArgOp) (w : List ℕ) → group_with (vector_arg_operands op) w ≡ OfOperands
vector_arg_none (vector_args.V128Const x) w = refl
vector_arg_none op w = refl

proposal_none : (op : ProposalOp) (w : List ℕ) → group_with (proposal_operands op) w ≡ OfOperands
proposal_none proposals.Pause w = refl
proposal_none op w = refl

-- all but blocks, loops, `if` and `try_table` have operands
pub other_group : (i : Instruction) → ((x : _) → i ≡ instructions.Block x → ⊥) → ((x : _) → i ≡ instructions.Loop x → ⊥) → ((x : _) → i ≡ instructions.If x → ⊥) → ((x : _) → i ≡ instructions.TryTable x → ⊥) → OfOperands ≡ group (instruction_tree i)
other_group (instructions.Block x) b l c t = absurd (b x refl)
other_group (instructions.Loop x) b l c t = absurd (l x refl)
other_group (instructions.If x) b l c t = absurd (c x refl)
other_group (instructions.TryTable x) b l c t = absurd (t x refl)
other_group (instructions.Try x) b l c t = sym try_is
other_group (instructions.Bulk op) b l c t = sym (bulk_none op _)
other_group (instructions.Gc op) b l c t = sym (gc_none op _)
other_group (instructions.VectorArg op) b l c t = sym (vector_arg_none op _)
other_group (instructions.Proposal op) b l c t = sym (proposal_none op.value _)
other_group i b l c t = refl
