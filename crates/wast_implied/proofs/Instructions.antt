-- Which instructions use a type, and what parts of fields use.
use Rattle.std.proofs.Common.{◌≡◌, ℕ, true, false, List, [], ◌∷◌, Option, Some, None, is_some, refl, sym, ap}
use Rattle.std.specs.List.{flat_map}
use Rattle.wast_grammar.specs.Tokens.{Name}
use Rattle.wast_signatures.specs.TypeTree as types
use Rattle.wast_signatures.specs.SignatureViews.{use_tree}
use Rattle.wast_typed_operands.specs.TypedViews.{try_table_tree}
use Rattle.wast_core_instr.specs.InstructionViews.{bulk_operands, gc_operands, vector_arg_operands, proposal_operands, instruction_operands, instruction_tree}
use Rattle.wast_core_instr.specs.declared.instruction.Instruction.{Instruction}
use Rattle.wast_core_instr.specs.declared.instruction.Instruction.TheVariants as instructions
use Rattle.wast_core_instr.specs.declared.bulk.BulkOp.{BulkOp}
use Rattle.wast_core_instr.specs.declared.bulk.BulkOp.TheVariants as bulks
use Rattle.wast_core_instr.specs.declared.gc.GcOp.{GcOp}
use Rattle.wast_core_instr.specs.declared.gc.GcOp.TheVariants as gcs
use Rattle.wast_core_instr.specs.declared.vector_arg.VectorArgOp.{VectorArgOp}
use Rattle.wast_core_instr.specs.declared.vector_arg.VectorArgOp.TheVariants as vector_args
use Rattle.wast_core_instr.specs.declared.proposal.ProposalOp.{ProposalOp}
use Rattle.wast_core_instr.specs.declared.proposal.ProposalOp.TheVariants as proposals
use Rattle.wast_imports.specs.ImportViews.{tag_tree}
use Rattle.wast_imports.specs.declared.item.TagType.{TagType}
use Rattle.wast_module_fields.specs.MemoryViews.{defined_memory}
use Rattle.wast_module_fields.specs.FuncViews.{defined_tag}
use Rattle.wast_module_fields.specs.MemoryKind.{MemoryKind}
use Rattle.wast_module_fields.specs.MemoryKind.TheVariants as memories
use Rattle.wast_module_fields.specs.TagKind.{TagKind}
use Rattle.wast_module_fields.specs.TagKind.TheVariants as tags
use Rattle.wast_meaning.specs.Mentions.{Mention, Uses, UsesInBlock, syntax_of, defined_parts, instr_mentions, part_mentions}
use Rattle.wast_meaning.specs.Implied.{is_short}
use Rattle.wast_implied.specs.Shapes.{shape}
use Rattle.wast_implied.specs.Known.{Known, unless_taken, after_use, after_sigs, after_mentions}
use Rattle.wast_implied.proofs.Quiet.{used, is_quiet, quiet_operands, used_try_table}

-- what uses the same leaves the same known
pub as_used : (p : ℕ) (k : Known) (ms ns : List (Mention Name ℕ)) → used ms ≡ used ns → after_mentions p k ms ≡ after_mentions p k ns
as_used p k ms ns h = ap (after_sigs p k) h

pub unchanged : (p : ℕ) (k : Known) (ms : List (Mention Name ℕ)) → used ms ≡ [] → k ≡ after_mentions p k ms
unchanged p k ms h = sym (ap (after_sigs p k) h)

-- INSTRUCTIONS
bulk_quiet : (op : BulkOp) → is_quiet (bulk_operands op) ≡ true
bulk_quiet (bulks.DataDrop x) = refl
bulk_quiet op = refl

gc_quiet : (op : GcOp) → is_quiet (gc_operands op) ≡ true
gc_quiet gcs.RefEq = refl
gc_quiet op = refl

vector_arg_quiet : (op : VectorArgOp) → is_quiet (vector_arg_operands op) ≡ true
vector_arg_quiet (vector_args.V128Const x) = refl
vector_arg_quiet op = refl

proposal_quiet : (op : ProposalOp) → is_quiet (proposal_operands op) ≡ true
proposal_quiet proposals.Pause = refl
proposal_quiet op = refl

instruction_quiet : (i : Instruction)
    → ((x : _) → i ≡ instructions.Block x → ⊥) → ((x : _) → i ≡ instructions.Loop x → ⊥) → ((x : _) → i ≡ instructions.If x → ⊥) → ((x : _) → i ≡ instructions.Try x → ⊥)
    → ((x : _) → i ≡ instructions.TryTable x → ⊥) → ((x : _) → i ≡ instructions.CallIndirect x → ⊥) → ((x : _) → i ≡ instructions.ReturnCallIndirect x → ⊥)
    → is_quiet (instruction_operands i) ≡ true
instruction_quiet (instructions.Block x) b l c t u e d = absurd (b x refl)
instruction_quiet (instructions.Loop x) b l c t u e d = absurd (l x refl)
instruction_quiet (instructions.If x) b l c t u e d = absurd (c x refl)
instruction_quiet (instructions.Try x) b l c t u e d = absurd (t x refl)
instruction_quiet (instructions.TryTable x) b l c t u e d = absurd (u x refl)
instruction_quiet (instructions.CallIndirect x) b l c t u e d = absurd (e x refl)
instruction_quiet (instructions.ReturnCallIndirect x) b l c t u e d = absurd (d x refl)
instruction_quiet (instructions.Bulk op) b l c t u e d = bulk_quiet op
instruction_quiet (instructions.Gc op) b l c t u e d = gc_quiet op
instruction_quiet (instructions.VectorArg op) b l c t u e d = vector_arg_quiet op
instruction_quiet (instructions.Proposal op) b l c t u e d = proposal_quiet op.value
instruction_quiet i b l c t u e d = refl

pub other_instruction : (p : ℕ) (k : Known) (i : Instruction)
    → ((x : _) → i ≡ instructions.Block x → ⊥) → ((x : _) → i ≡ instructions.Loop x → ⊥) → ((x : _) → i ≡ instructions.If x → ⊥) → ((x : _) → i ≡ instructions.Try x → ⊥)
    → ((x : _) → i ≡ instructions.TryTable x → ⊥) → ((x : _) → i ≡ instructions.CallIndirect x → ⊥) → ((x : _) → i ≡ instructions.ReturnCallIndirect x → ⊥)
    → k ≡ after_mentions p k (instr_mentions (instruction_tree i))
other_instruction p k i b l c t u e d =
    unchanged p k (instr_mentions (instruction_tree i)) (quiet_operands (syntax_of (instruction_tree i).head) (instruction_operands i) (instruction_quiet i b l c t u e d))

pub try_table_uses : (p : ℕ) (k : Known) (x : _) → after_mentions p k (UsesInBlock (use_tree x.block.value.ty) ∷ []) ≡ after_mentions p k (instr_mentions (instruction_tree (instructions.TryTable x)))
try_table_uses p k x = sym (ap (after_sigs p k) (used_try_table (syntax_of (instruction_tree (instructions.TryTable x)).head) (try_table_tree x)))

-- DEFINITIONS

pub tag_says : (kind : TagKind) (ty : TagType) → flat_map part_mentions (defined_parts (defined_tag kind ty)) ≡ Uses (tag_tree ty) ∷ []
tag_says (tags.Import i) ty = refl
tag_says tags.Inline ty = refl

pub memory_says : (kind : MemoryKind) → flat_map part_mentions (defined_parts (defined_memory kind)) ≡ []
memory_says (memories.Import i ty) = refl
memory_says (memories.Normal ty) = refl
memory_says (memories.Inline is_wide values page) = refl

-- the use of a block by its signature
abbrev pub block_of : types.Sig Name ℕ → Mention Name ℕ
block_of s = UsesInBlock (record { index = None; inline = Some s })

pub short_uses : (p : ℕ) (k : Known) (s : types.Sig Name ℕ) → is_short s ≡ true → k ≡ after_mentions p k (block_of s ∷ [])
short_uses p k s h = rw h refl

pub long_uses : (p : ℕ) (k : Known) (s : types.Sig Name ℕ) → is_short s ≡ false → after_use k (p, s) ≡ after_mentions p k (block_of s ∷ [])
long_uses p k s h = rw h refl

-- a signature that has a number, and one that gets one
is_taken : (o : Option ℕ) (k : Known) (u : ℕ × types.Sig Name ℕ) → is_some o ≡ true → k ≡ unless_taken o k u
is_taken None k u h = absurd (cc)
is_taken (Some n) k u h = refl

is_free : (o : Option ℕ) (k : Known) (u : ℕ × types.Sig Name ℕ) → is_some o ≡ false → unless_taken None k u ≡ unless_taken o k u
is_free None k u h = refl
is_free (Some n) k u h = absurd (cc)

pub taken_before : (k : Known) (u : ℕ × types.Sig Name ℕ) → is_some (k.types.look (shape u.1)) ≡ true → k ≡ after_use k u
taken_before k u h = is_taken (k.types.look (shape u.1)) k u h

pub taken_now : (k : Known) (u : ℕ × types.Sig Name ℕ) → is_some (k.types.look (shape u.1)) ≡ false → unless_taken None k u ≡ after_use k u
taken_now k u h = is_free (k.types.look (shape u.1)) k u h
