-- Instructions of proposals that a text may have and that are refused as uncovered: mnemonic and what stands after it, no opcode.
use Rattle.std.specs.Prelude.{ℕ, List, ◌∷◌, ◌++◌, codes, map}
use Prim.Native.String.{String}
use Rattle.wasm_encoder_base.specs.OperandSyntax.{OperandSyntax, Types, Tables, Memories, Globals, Tags, Fields}
use Rattle.wasm_encoder_base.specs.OperandSyntax as syntax
use Rattle.wasm_encoder_base.specs.Table.{words}

-- what stands after their mnemonics
pub data UncoveredSyntax : Type 0 where
  -- what may stand after a mnemonic of the table
  Listed : OperandSyntax → UncoveredSyntax
  -- the same, behind an ordering where given
  Ordered : OperandSyntax → UncoveredSyntax
  -- a reference type, nullable or not
  AnyRef : UncoveredSyntax
  -- a type's index, and handlers: `(on tag label)` or `(on tag switch)`, any number of them
  Resume : UncoveredSyntax
  -- a type's index and a tag's, and handlers
  ResumeThrow : UncoveredSyntax

pub record Uncovered : Type 0 where
  pub mnemonic : List ℕ
  pub operands : UncoveredSyntax

-- the entries whose mnemonics are the beginning and one of the words each
abbrev each : UncoveredSyntax → String → String → List Uncovered
each operands beginning text = map (λ w. record { mnemonic = codes beginning ++ w; operands = operands }) (words (codes text))

-- stack switching
abbrev pub switching : List Uncovered
switching =
    each (Listed (syntax.Index Types)) "cont." "new"
    ++ each (Listed (syntax.Indices Types Types)) "cont." "bind"
    ++ each (Listed (syntax.Index Tags)) "" "suspend"
    ++ each Resume "" "resume resume_throw_ref"
    ++ each ResumeThrow "" "resume_throw"
    ++ each (Listed (syntax.Indices Types Tags)) "" "switch"

-- descriptors
abbrev pub descriptors : List Uncovered
descriptors =
    each (Listed (syntax.Index Types)) "" "struct.new_desc struct.new_default_desc ref.get_desc"
    ++ each AnyRef "ref." "cast_desc_eq"
    ++ each (Listed syntax.Cast) "br_on_cast_desc_" "eq eq_fail"

-- shared memory beside that of the threads proposal
abbrev pub shared : List Uncovered
shared =
    each (Listed syntax.Plain) "" "pause ref.i31_shared"
    ++ each (Listed (syntax.OptionalIndex Memories)) "memory." "discard"
    ++ each (Ordered (syntax.Index Globals)) "global.atomic." "get set rmw.add rmw.sub rmw.and rmw.or rmw.xor rmw.xchg rmw.cmpxchg"
    ++ each (Ordered (syntax.OptionalIndex Tables)) "table.atomic." "get set rmw.xchg rmw.cmpxchg"
    ++ each (Ordered (syntax.Indices Types Fields)) "struct.atomic." "get get_s get_u set rmw.add rmw.sub rmw.and rmw.or rmw.xor rmw.xchg rmw.cmpxchg"
    ++ each (Ordered (syntax.Index Types)) "array.atomic." "get get_s get_u set rmw.add rmw.sub rmw.and rmw.or rmw.xor rmw.xchg rmw.cmpxchg"

-- all of them
unfoldable pub uncovered : List Uncovered
uncovered = switching ++ descriptors ++ shared
