-- The operands of a binary's instruction that operands stand for whose indices are numbers (WebAssembly 3.0, 6.5 and 5.4), over
-- names of type N and places of type P. What isn't covered stands for nothing; it is left out here, or taken for something else.
use Rattle.std.specs.Prelude.{ℕ, ℤ, ◌≡◌, ◌<◌, ◌^◌, List, [], ◌∷◌, map, Option, Some, None, option_map, unwrap_or}
use Rattle.std.specs.Int.{w64, w128, trailing_zeros, from_le_bytes}
use Rattle.wasm_encoder_base.specs.Instr as binary
use Rattle.wasm_encoder_base.specs.OperandSyntax.{OperandSyntax}
use Rattle.wasm_encoder_base.specs.OperandSyntax as syntax
use Rattle.wast_parser.specs.Identifiers.{Reference}
use Rattle.wast_value_types.specs.ValueTree.{ValType}
use Rattle.wast_signatures.specs.TypeTree.{Sig, TypeUse}
use Rattle.wast_vector_operands.specs.VectorTree.{Vector}
use Rattle.wast_vector_operands.specs.VectorViews.{vector_bytes}
use Rattle.wast_operands.specs.OperandTree.{Ordering, AcqRel, SeqCst, MemArgTarget, Memory, Array, MemArg}
use Rattle.wast_typed_operands.specs.TypedTree.{Catch, CatchTag, CatchTagRef, CatchAll, CatchAllRef}
use Rattle.wast_core_instr.specs.InstructionTree.{Operands}
use Rattle.wast_core_instr.specs.InstructionTree as instr
use Rattle.wast_conversions.specs.Types.{number_of, heap_meant, ref_meant, val_meant, use_meant}

-- the powers of two below 65536, and the logarithm of one: how many zeros its binary digits end in
abbrev pub IsPower : ℕ → Type 0
IsPower n = (k : ℕ) × (k < 16) × (n ≡ 2 ^ k)

unfoldable pub logarithm : ℕ → ℕ
logarithm n = trailing_zeros w64 n

-- the bits of a vector of integers: its lanes' bytes are its own, the low one first (6.5, vector instructions)
abbrev pub vector_meant : Vector → ℕ
vector_meant v = from_le_bytes w128 (unwrap_or (vector_bytes v) [])

-- the number of a literal, by the table (6.5, numeric instructions)
abbrev pub integer_meant : OperandSyntax → ℤ → binary.Operands
integer_meant syntax.I64 z = binary.I64 z
integer_meant _ z = binary.I32 z

-- orderings, by their byte
abbrev pub ordering_meant : Ordering → List ℕ
ordering_meant SeqCst = 0x00 ∷ []
ordering_meant AcqRel = 0x01 ∷ []

module _ {N P : Type 0} where
  -- an index that may be left out, and is 0 then
  abbrev pub optional_meant : Option (Reference N P) → ℕ
  optional_meant i = unwrap_or (option_map number_of i) 0

  -- the types of blocks (6.5, control instructions): that of the type use's index; without one, that of no result or of one
  abbrev pub results_meant : List (ValType N P) → binary.BlockType
  results_meant [] = binary.NoResult
  results_meant (t ∷ ts) = binary.Result (val_meant t)

  abbrev pub inline_meant : Option (Sig N P) → binary.BlockType
  inline_meant None = binary.NoResult
  inline_meant (Some s) = results_meant s.results

  abbrev pub block_meant : TypeUse N P → binary.BlockType
  block_meant u = elim u.index [ Some i ↦ binary.FunctionType (number_of i) | None ↦ inline_meant u.inline ]

  -- clauses (6.5, control instructions)
  abbrev pub catch_meant : Catch N P → binary.Catch
  catch_meant (CatchTag t l) = binary.CatchTag (number_of t) (number_of l)
  catch_meant (CatchTagRef t l) = binary.CatchTagRef (number_of t) (number_of l)
  catch_meant (CatchAll l) = binary.CatchAll (number_of l)
  catch_meant (CatchAllRef l) = binary.CatchAllRef (number_of l)

  -- memory arguments (6.5, memory instructions): memory 0 where none is written
  abbrev pub target_meant : MemArgTarget N P → ℕ
  target_meant (Memory i) = number_of i
  target_meant (Array i) = number_of i

  abbrev pub mem_arg_meant : MemArg N P → binary.MemArg
  mem_arg_meant m = record { align = logarithm m.align; offset = m.offset; memory = unwrap_or (option_map target_meant m.target) 0 }

  -- two indices that may be left out, and are 0 then
  abbrev pub both_meant : Option (Reference N P × Reference N P) → binary.Operands
  both_meant None = binary.Pair 0 0
  both_meant (Some p) = binary.Pair (number_of p.0) (number_of p.1)

  -- the types of a select (6.5, parametric instructions), where some are written
  abbrev pub select_meant : Option (List (ValType N P)) → binary.Operands
  select_meant None = binary.NoOperands
  select_meant (Some ts) = binary.ValTypes (map val_meant ts)

  -- operands (6.5), of which the table says this
  abbrev pub operands_meant : OperandSyntax → Operands N P → binary.Operands
  operands_meant o (instr.Block b) = binary.Block (block_meant b.type_use)
  operands_meant o (instr.TryTable t) = binary.TryTable (block_meant t.block.type_use) (map catch_meant t.catches)
  operands_meant o (instr.One i) = binary.Index (number_of i)
  operands_meant o (instr.Two i j) = binary.Pair (number_of i) (number_of j)
  operands_meant o (instr.Counted i n) = binary.Pair (number_of i) n
  operands_meant o (instr.LabelTable is i) = binary.LabelTable (map number_of is) (number_of i)
  operands_meant o (instr.Indirect x) = binary.Indirect (optional_meant x.table) (use_meant x.type_use)
  operands_meant o (instr.Optional i) = binary.Index (optional_meant i)
  operands_meant o (instr.OptionalTwo p) = both_meant p
  operands_meant o (instr.OptionalThen i j) = binary.Init (optional_meant i) (number_of j)
  operands_meant o (instr.Heap h) = binary.Heap (heap_meant h)
  operands_meant o (instr.Ref r) = binary.Heap (heap_meant r.heap_type)
  operands_meant o (instr.Cast c) = binary.Cast (number_of c.label) (ref_meant c.source) (ref_meant c.target)
  operands_meant o (instr.Integer z) = integer_meant o z
  operands_meant o (instr.Lanes v) = binary.V128 (vector_meant v)
  operands_meant o (instr.Types ts) = select_meant ts
  operands_meant o (instr.Lane n) = binary.Lane n
  operands_meant o (instr.Shuffle ns) = binary.Shuffle ns
  operands_meant o (instr.Memory m) = binary.Memory (mem_arg_meant m)
  operands_meant o (instr.MemoryLane m n) = binary.MemoryLane (mem_arg_meant m) n
  operands_meant o (instr.Fence ordering) = binary.Fence
  operands_meant o _ = binary.NoOperands

  -- where alignments are powers of two below 65536 (6.5, memory instructions)
  abbrev pub OperandsAligned : Operands N P → Type 0
  OperandsAligned (instr.Memory m) = IsPower m.align
  OperandsAligned (instr.MemoryLane m n) = IsPower m.align
  OperandsAligned _ = Unit {0}
