-- Which instructions leave the open blocks as they are.
use Rattle.std.specs.Prelude.{codes}
use Rattle.std.proofs.Common.{◌≡◌, ℕ, Bool, true, false, ◌||◌, List, [], ◌∷◌, refl, sym, ap, ◌∙◌, subst, inl, inr}
use Rattle.std.specs.Cmp.Lexicographic.{same_text as text_equal}
use Rattle.std.specs.List.{list_all}
use Rattle.std.proofs.lemmas.Bool.{cases_Bool, and_parts, and_from, cond-true, cond-false}
use Rattle.wasm_encoder_base.specs.Balanced.{Turn, Opens, Closes, Stays, turn_of}
use Rattle.wasm_encoder_base.specs.Distinct.{is_among}
use Rattle.wasm_encoder_base.specs.Leb.{uleb, leb, digits}
use Rattle.wasm_encoder_base.specs.Table.{Entry, table, entries_of, same_text}
use Rattle.wasm_encoder_opcodes.specs.Access.{access_mnemonic}
use Rattle.wasm_encoder_opcodes.specs.declared.access.AccessOp.{AccessOp}
use Rattle.wasm_encoder_opcodes.specs.declared.access.AccessOp.TheVariants as access_ops
use Rattle.wasm_encoder_opcodes.specs.Atomic.{atomic_mnemonic}
use Rattle.wasm_encoder_opcodes.specs.declared.atomic.AtomicOp.{AtomicOp}
use Rattle.wasm_encoder_opcodes.specs.declared.atomic.AtomicOp.TheVariants as atomic_ops
use Rattle.wasm_encoder_opcodes.specs.AtomicRmw.{atomic_rmw_mnemonic}
use Rattle.wasm_encoder_opcodes.specs.declared.atomic_rmw.AtomicRmwOp.{AtomicRmwOp}
use Rattle.wasm_encoder_opcodes.specs.declared.atomic_rmw.AtomicRmwOp.TheVariants as atomic_rmw_ops
use Rattle.wasm_encoder_opcodes.specs.Compare.{compare_mnemonic}
use Rattle.wasm_encoder_opcodes.specs.declared.compare.CompareOp.{CompareOp}
use Rattle.wasm_encoder_opcodes.specs.declared.compare.CompareOp.TheVariants as compare_ops
use Rattle.wasm_encoder_opcodes.specs.Convert.{convert_mnemonic}
use Rattle.wasm_encoder_opcodes.specs.declared.convert.ConvertOp.{ConvertOp}
use Rattle.wasm_encoder_opcodes.specs.declared.convert.ConvertOp.TheVariants as convert_ops
use Rattle.wasm_encoder_opcodes.specs.Numeric.{numeric_mnemonic}
use Rattle.wasm_encoder_opcodes.specs.declared.numeric.NumericOp.{NumericOp}
use Rattle.wasm_encoder_opcodes.specs.declared.numeric.NumericOp.TheVariants as numeric_ops
use Rattle.wasm_encoder_opcodes.specs.Vector.{vector_mnemonic}
use Rattle.wasm_encoder_opcodes.specs.declared.vector.VectorOp.{VectorOp}
use Rattle.wasm_encoder_opcodes.specs.declared.vector.VectorOp.TheVariants as vector_ops
use Rattle.wasm_encoder_opcodes.specs.VectorFloat.{vector_float_mnemonic}
use Rattle.wasm_encoder_opcodes.specs.declared.vector_float.VectorFloatOp.{VectorFloatOp}
use Rattle.wasm_encoder_opcodes.specs.declared.vector_float.VectorFloatOp.TheVariants as vector_float_ops
use Rattle.wasm_encoder_opcodes.specs.VectorNarrow.{vector_narrow_mnemonic}
use Rattle.wasm_encoder_opcodes.specs.declared.vector_narrow.VectorNarrowOp.{VectorNarrowOp}
use Rattle.wasm_encoder_opcodes.specs.declared.vector_narrow.VectorNarrowOp.TheVariants as vector_narrow_ops
use Rattle.wasm_encoder_opcodes.specs.VectorWide.{vector_wide_mnemonic}
use Rattle.wasm_encoder_opcodes.specs.declared.vector_wide.VectorWideOp.{VectorWideOp}
use Rattle.wasm_encoder_opcodes.specs.declared.vector_wide.VectorWideOp.TheVariants as vector_wide_ops
use Rattle.wast_mnemonics.specs.Heads.{chosen}
use Rattle.wast_mnemonics.specs.Mnemonics.{word_mnemonic}
use Rattle.wast_core_instr.specs.InstructionTree.{choose_second}
use Rattle.wast_core_instr.specs.InstructionViews.{instruction_operands, instruction_tree}
use Rattle.wast_core_instr.specs.WordViews.{bulk_word, gc_word, vector_arg_word, proposal_word, instruction_word}
use Rattle.wast_core_instr.specs.declared.instruction.Instruction.{Instruction}
use Rattle.wast_core_instr.specs.declared.instruction.Instruction.TheVariants as instructions
use Rattle.wast_core_instr.specs.declared.bulk.BulkOp.{BulkOp}
use Rattle.wast_core_instr.specs.declared.bulk.BulkOp.TheVariants as bulks
use Rattle.wast_core_instr.specs.declared.gc.GcOp.{GcOp}
use Rattle.wast_core_instr.specs.declared.gc.GcOp.TheVariants as gcs
use Rattle.wast_core_instr.specs.declared.vector_arg.VectorArgOp.{VectorArgOp}
use Rattle.wast_core_instr.specs.declared.vector_arg.VectorArgOp.TheVariants as vector_args
use Rattle.wast_core_instr.specs.declared.proposal.ProposalOp.{ProposalOp}
use Rattle.wast_core_instr.specs.declared.proposal.ProposalOp.TheVariants as proposals
use Rattle.wast_meaning.specs.Scope.{turn_of_head}

-- THE TABLE: all entries but these open no block and close none
abbrev turning : List (List ℕ)
turning = codes "block" ∷ codes "loop" ∷ codes "if" ∷ codes "try" ∷ codes "try_table" ∷ codes "end" ∷ codes "delegate" ∷ []

abbrev stays : Turn → Bool
stays Stays = true
stays _ = false

stays_is : (t : Turn) → stays t ≡ true → t ≡ Stays
stays_is Opens e = cc
stays_is Closes e = cc
stays_is Stays e = refl

abbrev entry_stays : Entry → Bool
entry_stays e = stays (turn_of e.opcode)

abbrev turns_or_stays : Entry → Bool
turns_or_stays e = is_among e.mnemonic turning || entry_stays e

table_turns_or_stays : list_all turns_or_stays table ≡ true
unfolding table uleb leb digits
table_turns_or_stays = refl

entries_stay : (w : List ℕ) (es : List Entry) → is_among w turning ≡ false → list_all turns_or_stays es ≡ true → list_all entry_stays (entries_of w es) ≡ true
entries_stay w [] other h = refl
entries_stay w (e ∷ es) other h =
    let each = and_parts (turns_or_stays e) (list_all turns_or_stays es) h in
    let rest = entries_stay w es other each.1 in
    elim (cases_Bool (same_text w e.mnemonic)) [
      | inl y ↦
          let apart : is_among e.mnemonic turning ≡ false = subst (λ v. is_among v turning ≡ false) (text_equal w e.mnemonic (sym y)) other in
          let here : entry_stays e ≡ true = ap (λ b. b || entry_stays e) (sym apart) ∙ each.0 in
          ap (list_all entry_stays) (cond-true (same_text w e.mnemonic) (e ∷ entries_of w es) (entries_of w es) y) ∙ and_from (entry_stays e) (list_all entry_stays (entries_of w es)) here rest
      | inr z ↦ ap (list_all entry_stays) (cond-false (same_text w e.mnemonic) (e ∷ entries_of w es) (entries_of w es) z) ∙ rest
    ]

chosen_stays : (w : List ℕ) (es : List Entry) (second : Bool) → list_all entry_stays es ≡ true → turn_of_head (chosen w es second) ≡ Stays
chosen_stays w [] second h = refl
chosen_stays w (e ∷ []) second h = stays_is (turn_of e.opcode) (and_parts (entry_stays e) true h).0
chosen_stays w (e ∷ f ∷ es) true h = stays_is (turn_of f.opcode) (and_parts (entry_stays f) (list_all entry_stays es) (and_parts (entry_stays e) (list_all entry_stays (f ∷ es)) h).1).0
chosen_stays w (e ∷ f ∷ es) false h = stays_is (turn_of e.opcode) (and_parts (entry_stays e) (list_all entry_stays (f ∷ es)) h).0

other_stays : (w : List ℕ) (second : Bool) → is_among w turning ≡ false → Stays ≡ turn_of_head (chosen w (entries_of w table) second)
other_stays w second other = sym (chosen_stays w (entries_of w table) second (entries_stay w table other table_turns_or_stays))

-- INSTRUCTIONS that open a block or close one
pub block_opens : Opens ≡ turn_of_head (chosen (codes "block") (entries_of (codes "block") table) false)
unfolding table uleb leb digits
block_opens = refl

pub loop_opens : Opens ≡ turn_of_head (chosen (codes "loop") (entries_of (codes "loop") table) false)
unfolding table uleb leb digits
loop_opens = refl

pub if_opens : Opens ≡ turn_of_head (chosen (codes "if") (entries_of (codes "if") table) false)
unfolding table uleb leb digits
if_opens = refl

pub try_opens : Opens ≡ turn_of_head (chosen (codes "try") (entries_of (codes "try") table) false)
unfolding table uleb leb digits
try_opens = refl

pub try_table_opens : Opens ≡ turn_of_head (chosen (codes "try_table") (entries_of (codes "try_table") table) false)
unfolding table uleb leb digits
try_table_opens = refl

pub end_closes : Closes ≡ turn_of_head (chosen (codes "end") (entries_of (codes "end") table) false)
unfolding table uleb leb digits
end_closes = refl

pub delegate_closes : Closes ≡ turn_of_head (chosen (codes "delegate") (entries_of (codes "delegate") table) false)
unfolding table uleb leb digits
delegate_closes = refl

-- MNEMONICS that aren't among them
access_other : (op : AccessOp) → is_among (access_mnemonic op) turning ≡ false
access_other access_ops.I32Load = refl
access_other op = refl

atomic_other : (op : AtomicOp) → is_among (atomic_mnemonic op) turning ≡ false
atomic_other atomic_ops.MemoryAtomicNotify = refl
atomic_other op = refl

atomic_rmw_other : (op : AtomicRmwOp) → is_among (atomic_rmw_mnemonic op) turning ≡ false
atomic_rmw_other atomic_rmw_ops.I32AtomicRmwAdd = refl
atomic_rmw_other op = refl

compare_other : (op : CompareOp) → is_among (compare_mnemonic op) turning ≡ false
compare_other compare_ops.I32Eqz = refl
compare_other op = refl

convert_other : (op : ConvertOp) → is_among (convert_mnemonic op) turning ≡ false
convert_other convert_ops.I32WrapI64 = refl
convert_other op = refl

numeric_other : (op : NumericOp) → is_among (numeric_mnemonic op) turning ≡ false
numeric_other numeric_ops.I32Clz = refl
numeric_other op = refl

vector_other : (op : VectorOp) → is_among (vector_mnemonic op) turning ≡ false
vector_other vector_ops.I8x16Swizzle = refl
vector_other op = refl

vector_float_other : (op : VectorFloatOp) → is_among (vector_float_mnemonic op) turning ≡ false
vector_float_other vector_float_ops.F32x4Abs = refl
vector_float_other op = refl

vector_narrow_other : (op : VectorNarrowOp) → is_among (vector_narrow_mnemonic op) turning ≡ false
vector_narrow_other vector_narrow_ops.I8x16Abs = refl
vector_narrow_other op = refl

vector_wide_other : (op : VectorWideOp) → is_among (vector_wide_mnemonic op) turning ≡ false
vector_wide_other vector_wide_ops.I32x4Abs = refl
vector_wide_other op = refl

bulk_other : (op : BulkOp) → is_among (word_mnemonic (bulk_word op)) turning ≡ false
bulk_other (bulks.DataDrop x) = refl
bulk_other op = refl

gc_other : (op : GcOp) → is_among (word_mnemonic (gc_word op)) turning ≡ false
gc_other gcs.RefEq = refl
gc_other op = refl

vector_arg_other : (op : VectorArgOp) → is_among (word_mnemonic (vector_arg_word op)) turning ≡ false
vector_arg_other (vector_args.V128Const x) = refl
vector_arg_other op = refl

proposal_other : (op : ProposalOp) → is_among (word_mnemonic (proposal_word op)) turning ≡ false
proposal_other proposals.Pause = refl
proposal_other op = refl

-- THE OTHER INSTRUCTIONS
abbrev Is : Instruction → Type 0
Is i = is_among (word_mnemonic (instruction_word i)) turning ≡ false

word_other : (i : Instruction)
    → ((x : _) → i ≡ instructions.Block x → ⊥) → ((x : _) → i ≡ instructions.Loop x → ⊥) → ((x : _) → i ≡ instructions.If x → ⊥) → ((x : _) → i ≡ instructions.Try x → ⊥)
    → ((x : _) → i ≡ instructions.TryTable x → ⊥) → ((x : _) → i ≡ instructions.End x → ⊥) → ((x : _) → i ≡ instructions.Delegate x → ⊥) → Is i
word_other (instructions.Block x) b l c t u e d = absurd (b x refl)
word_other (instructions.Loop x) b l c t u e d = absurd (l x refl)
word_other (instructions.If x) b l c t u e d = absurd (c x refl)
word_other (instructions.Try x) b l c t u e d = absurd (t x refl)
word_other (instructions.TryTable x) b l c t u e d = absurd (u x refl)
word_other (instructions.End x) b l c t u e d = absurd (e x refl)
word_other (instructions.Delegate x) b l c t u e d = absurd (d x refl)
word_other (instructions.Compare op) b l c t u e d = compare_other op
word_other (instructions.Numeric op) b l c t u e d = numeric_other op
word_other (instructions.Convert op) b l c t u e d = convert_other op
word_other (instructions.Vector op) b l c t u e d = vector_other op
word_other (instructions.VectorNarrow op) b l c t u e d = vector_narrow_other op
word_other (instructions.VectorWide op) b l c t u e d = vector_wide_other op
word_other (instructions.VectorFloat op) b l c t u e d = vector_float_other op
word_other (instructions.Access op x) b l c t u e d = access_other op
word_other (instructions.Atomic op x) b l c t u e d = atomic_other op
word_other (instructions.AtomicRmw op x) b l c t u e d = atomic_rmw_other op
word_other (instructions.Bulk op) b l c t u e d = bulk_other op
word_other (instructions.Gc op) b l c t u e d = gc_other op
word_other (instructions.VectorArg op) b l c t u e d = vector_arg_other op
word_other (instructions.Proposal op) b l c t u e d = proposal_other op.value
word_other i b l c t u e d = refl

pub other_turn : (i : Instruction)
    → ((x : _) → i ≡ instructions.Block x → ⊥) → ((x : _) → i ≡ instructions.Loop x → ⊥) → ((x : _) → i ≡ instructions.If x → ⊥) → ((x : _) → i ≡ instructions.Try x → ⊥)
    → ((x : _) → i ≡ instructions.TryTable x → ⊥) → ((x : _) → i ≡ instructions.End x → ⊥) → ((x : _) → i ≡ instructions.Delegate x → ⊥)
    → Stays ≡ turn_of_head (instruction_tree i).head
other_turn i b l c t u e d = other_stays (word_mnemonic (instruction_word i)) (choose_second (instruction_operands i)) (word_other i b l c t u e d)
