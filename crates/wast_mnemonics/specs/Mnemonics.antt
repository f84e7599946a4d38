-- How each word is written.
use Rattle.std.specs.Prelude.{ℕ, List, codes}
use Rattle.wasm_encoder_opcodes.specs.Access.{access_mnemonic}
use Rattle.wasm_encoder_opcodes.specs.Atomic.{atomic_mnemonic}
use Rattle.wasm_encoder_opcodes.specs.AtomicRmw.{atomic_rmw_mnemonic}
use Rattle.wasm_encoder_opcodes.specs.Compare.{compare_mnemonic}
use Rattle.wasm_encoder_opcodes.specs.Convert.{convert_mnemonic}
use Rattle.wasm_encoder_opcodes.specs.Numeric.{numeric_mnemonic}
use Rattle.wasm_encoder_opcodes.specs.Vector.{vector_mnemonic}
use Rattle.wasm_encoder_opcodes.specs.VectorFloat.{vector_float_mnemonic}
use Rattle.wasm_encoder_opcodes.specs.VectorNarrow.{vector_narrow_mnemonic}
use Rattle.wasm_encoder_opcodes.specs.VectorWide.{vector_wide_mnemonic}
use Rattle.wast_mnemonics.specs.declared.word.Word.{Word}
use Rattle.wast_mnemonics.specs.declared.word.Word.TheVariants as words
use Rattle.wast_mnemonics.specs.declared.word.PlainWord.{PlainWord}
use Rattle.wast_mnemonics.specs.declared.word.PlainWord.TheVariants as plain_words
use Rattle.wast_mnemonics.specs.declared.word.NameWord.{NameWord}
use Rattle.wast_mnemonics.specs.declared.word.NameWord.TheVariants as name_words
use Rattle.wast_mnemonics.specs.declared.word.BlockWord.{BlockWord}
use Rattle.wast_mnemonics.specs.declared.word.BlockWord.TheVariants as block_words
use Rattle.wast_mnemonics.specs.declared.word.IndexWord.{IndexWord}
use Rattle.wast_mnemonics.specs.declared.word.IndexWord.TheVariants as index_words
use Rattle.wast_mnemonics.specs.declared.word.IndicesWord.{IndicesWord}
use Rattle.wast_mnemonics.specs.declared.word.IndicesWord.TheVariants as indices_words
use Rattle.wast_mnemonics.specs.declared.word.IndirectWord.{IndirectWord}
use Rattle.wast_mnemonics.specs.declared.word.IndirectWord.TheVariants as indirect_words
use Rattle.wast_mnemonics.specs.declared.word.OptionalIndexWord.{OptionalIndexWord}
use Rattle.wast_mnemonics.specs.declared.word.OptionalIndexWord.TheVariants as optional_index_words
use Rattle.wast_mnemonics.specs.declared.word.CopyWord.{CopyWord}
use Rattle.wast_mnemonics.specs.declared.word.CopyWord.TheVariants as copy_words
use Rattle.wast_mnemonics.specs.declared.word.InitWord.{InitWord}
use Rattle.wast_mnemonics.specs.declared.word.InitWord.TheVariants as init_words
use Rattle.wast_mnemonics.specs.declared.word.RefWord.{RefWord}
use Rattle.wast_mnemonics.specs.declared.word.RefWord.TheVariants as ref_words
use Rattle.wast_mnemonics.specs.declared.word.CastWord.{CastWord}
use Rattle.wast_mnemonics.specs.declared.word.CastWord.TheVariants as cast_words
use Rattle.wast_mnemonics.specs.declared.word.LaneWord.{LaneWord}
use Rattle.wast_mnemonics.specs.declared.word.LaneWord.TheVariants as lane_words
use Rattle.wast_mnemonics.specs.declared.word.VectorMemoryWord.{VectorMemoryWord}
use Rattle.wast_mnemonics.specs.declared.word.VectorMemoryWord.TheVariants as vector_memory_words
use Rattle.wast_mnemonics.specs.declared.word.MemoryWord.{MemoryWord}
use Rattle.wast_mnemonics.specs.declared.word.MemoryWord.TheVariants as memory_words
use Rattle.wast_mnemonics.specs.declared.word.MemoryLaneWord.{MemoryLaneWord}
use Rattle.wast_mnemonics.specs.declared.word.MemoryLaneWord.TheVariants as memory_lane_words
use Rattle.wast_mnemonics.specs.ProposalMnemonics.{proposal_mnemonic}

abbrev pub plain_mnemonic : PlainWord → List ℕ
plain_mnemonic plain_words.Unreachable = codes "unreachable"
plain_mnemonic plain_words.Nop = codes "nop"
plain_mnemonic plain_words.ThrowRef = codes "throw_ref"
plain_mnemonic plain_words.Return = codes "return"
plain_mnemonic plain_words.CatchAll = codes "catch_all"
plain_mnemonic plain_words.Drop = codes "drop"
plain_mnemonic plain_words.RefIsNull = codes "ref.is_null"
plain_mnemonic plain_words.RefEq = codes "ref.eq"
plain_mnemonic plain_words.RefAsNonNull = codes "ref.as_non_null"
plain_mnemonic plain_words.ArrayLen = codes "array.len"
plain_mnemonic plain_words.AnyConvertExtern = codes "any.convert_extern"
plain_mnemonic plain_words.ExternConvertAny = codes "extern.convert_any"
plain_mnemonic plain_words.RefI31 = codes "ref.i31"
plain_mnemonic plain_words.I31GetS = codes "i31.get_s"
plain_mnemonic plain_words.I31GetU = codes "i31.get_u"
plain_mnemonic (plain_words.Compare op) = compare_mnemonic op
plain_mnemonic (plain_words.Numeric op) = numeric_mnemonic op
plain_mnemonic (plain_words.Convert op) = convert_mnemonic op
plain_mnemonic (plain_words.Vector op) = vector_mnemonic op
plain_mnemonic (plain_words.VectorNarrow op) = vector_narrow_mnemonic op
plain_mnemonic (plain_words.VectorWide op) = vector_wide_mnemonic op
plain_mnemonic (plain_words.VectorFloat op) = vector_float_mnemonic op

abbrev pub name_mnemonic : NameWord → List ℕ
name_mnemonic name_words.Else = codes "else"
name_mnemonic name_words.End = codes "end"

abbrev pub block_mnemonic : BlockWord → List ℕ
block_mnemonic block_words.Block = codes "block"
block_mnemonic block_words.Loop = codes "loop"
block_mnemonic block_words.If = codes "if"
block_mnemonic block_words.Try = codes "try"

abbrev pub index_mnemonic : IndexWord → List ℕ
index_mnemonic index_words.Catch = codes "catch"
index_mnemonic index_words.Throw = codes "throw"
index_mnemonic index_words.Rethrow = codes "rethrow"
index_mnemonic index_words.Br = codes "br"
index_mnemonic index_words.BrIf = codes "br_if"
index_mnemonic index_words.Call = codes "call"
index_mnemonic index_words.ReturnCall = codes "return_call"
index_mnemonic index_words.CallRef = codes "call_ref"
index_mnemonic index_words.ReturnCallRef = codes "return_call_ref"
index_mnemonic index_words.Delegate = codes "delegate"
index_mnemonic index_words.LocalGet = codes "local.get"
index_mnemonic index_words.LocalSet = codes "local.set"
index_mnemonic index_words.LocalTee = codes "local.tee"
index_mnemonic index_words.GlobalGet = codes "global.get"
index_mnemonic index_words.GlobalSet = codes "global.set"
index_mnemonic index_words.RefFunc = codes "ref.func"
index_mnemonic index_words.BrOnNull = codes "br_on_null"
index_mnemonic index_words.BrOnNonNull = codes "br_on_non_null"
index_mnemonic index_words.StructNew = codes "struct.new"
index_mnemonic index_words.StructNewDefault = codes "struct.new_default"
index_mnemonic index_words.ArrayNew = codes "array.new"
index_mnemonic index_words.ArrayNewDefault = codes "array.new_default"
index_mnemonic index_words.ArrayGet = codes "array.get"
index_mnemonic index_words.ArrayGetS = codes "array.get_s"
index_mnemonic index_words.ArrayGetU = codes "array.get_u"
index_mnemonic index_words.ArraySet = codes "array.set"
index_mnemonic index_words.ArrayFill = codes "array.fill"
index_mnemonic index_words.DataDrop = codes "data.drop"
index_mnemonic index_words.ElemDrop = codes "elem.drop"

abbrev pub indices_mnemonic : IndicesWord → List ℕ
indices_mnemonic indices_words.StructGet = codes "struct.get"
indices_mnemonic indices_words.StructGetS = codes "struct.get_s"
indices_mnemonic indices_words.StructGetU = codes "struct.get_u"
indices_mnemonic indices_words.StructSet = codes "struct.set"
indices_mnemonic indices_words.ArrayNewData = codes "array.new_data"
indices_mnemonic indices_words.ArrayNewElem = codes "array.new_elem"
indices_mnemonic indices_words.ArrayCopy = codes "array.copy"
indices_mnemonic indices_words.ArrayInitData = codes "array.init_data"
indices_mnemonic indices_words.ArrayInitElem = codes "array.init_elem"

abbrev pub indirect_mnemonic : IndirectWord → List ℕ
indirect_mnemonic indirect_words.CallIndirect = codes "call_indirect"
indirect_mnemonic indirect_words.ReturnCallIndirect = codes "return_call_indirect"

abbrev pub optional_index_mnemonic : OptionalIndexWord → List ℕ
optional_index_mnemonic optional_index_words.TableGet = codes "table.get"
optional_index_mnemonic optional_index_words.TableSet = codes "table.set"
optional_index_mnemonic optional_index_words.MemorySize = codes "memory.size"
optional_index_mnemonic optional_index_words.MemoryGrow = codes "memory.grow"
optional_index_mnemonic optional_index_words.MemoryFill = codes "memory.fill"
optional_index_mnemonic optional_index_words.TableGrow = codes "table.grow"
optional_index_mnemonic optional_index_words.TableSize = codes "table.size"
optional_index_mnemonic optional_index_words.TableFill = codes "table.fill"

abbrev pub copy_mnemonic : CopyWord → List ℕ
copy_mnemonic copy_words.MemoryCopy = codes "memory.copy"
copy_mnemonic copy_words.TableCopy = codes "table.copy"

abbrev pub init_mnemonic : InitWord → List ℕ
init_mnemonic init_words.MemoryInit = codes "memory.init"
init_mnemonic init_words.TableInit = codes "table.init"

abbrev pub ref_mnemonic : RefWord → List ℕ
ref_mnemonic ref_words.RefTest = codes "ref.test"
ref_mnemonic ref_words.RefCast = codes "ref.cast"

abbrev pub cast_mnemonic : CastWord → List ℕ
cast_mnemonic cast_words.BrOnCast = codes "br_on_cast"
cast_mnemonic cast_words.BrOnCastFail = codes "br_on_cast_fail"

abbrev pub lane_mnemonic : LaneWord → List ℕ
lane_mnemonic lane_words.I8x16ExtractLaneS = codes "i8x16.extract_lane_s"
lane_mnemonic lane_words.I8x16ExtractLaneU = codes "i8x16.extract_lane_u"
lane_mnemonic lane_words.I8x16ReplaceLane = codes "i8x16.replace_lane"
lane_mnemonic lane_words.I16x8ExtractLaneS = codes "i16x8.extract_lane_s"
lane_mnemonic lane_words.I16x8ExtractLaneU = codes "i16x8.extract_lane_u"
lane_mnemonic lane_words.I16x8ReplaceLane = codes "i16x8.replace_lane"
lane_mnemonic lane_words.I32x4ExtractLane = codes "i32x4.extract_lane"
lane_mnemonic lane_words.I32x4ReplaceLane = codes "i32x4.replace_lane"
lane_mnemonic lane_words.I64x2ExtractLane = codes "i64x2.extract_lane"
lane_mnemonic lane_words.I64x2ReplaceLane = codes "i64x2.replace_lane"
lane_mnemonic lane_words.F32x4ExtractLane = codes "f32x4.extract_lane"
lane_mnemonic lane_words.F32x4ReplaceLane = codes "f32x4.replace_lane"
lane_mnemonic lane_words.F64x2ExtractLane = codes "f64x2.extract_lane"
lane_mnemonic lane_words.F64x2ReplaceLane = codes "f64x2.replace_lane"

abbrev pub vector_memory_mnemonic : VectorMemoryWord → List ℕ
vector_memory_mnemonic vector_memory_words.V128Load = codes "v128.load"
vector_memory_mnemonic vector_memory_words.V128Load8x8S = codes "v128.load8x8_s"
vector_memory_mnemonic vector_memory_words.V128Load8x8U = codes "v128.load8x8_u"
vector_memory_mnemonic vector_memory_words.V128Load16x4S = codes "v128.load16x4_s"
vector_memory_mnemonic vector_memory_words.V128Load16x4U = codes "v128.load16x4_u"
vector_memory_mnemonic vector_memory_words.V128Load32x2S = codes "v128.load32x2_s"
vector_memory_mnemonic vector_memory_words.V128Load32x2U = codes "v128.load32x2_u"
vector_memory_mnemonic vector_memory_words.V128Load8Splat = codes "v128.load8_splat"
vector_memory_mnemonic vector_memory_words.V128Load16Splat = codes "v128.load16_splat"
vector_memory_mnemonic vector_memory_words.V128Load32Splat = codes "v128.load32_splat"
vector_memory_mnemonic vector_memory_words.V128Load64Splat = codes "v128.load64_splat"
vector_memory_mnemonic vector_memory_words.V128Store = codes "v128.store"
vector_memory_mnemonic vector_memory_words.V128Load32Zero = codes "v128.load32_zero"
vector_memory_mnemonic vector_memory_words.V128Load64Zero = codes "v128.load64_zero"

abbrev pub memory_mnemonic : MemoryWord → List ℕ
memory_mnemonic (memory_words.Access op) = access_mnemonic op
memory_mnemonic (memory_words.Atomic op) = atomic_mnemonic op
memory_mnemonic (memory_words.AtomicRmw op) = atomic_rmw_mnemonic op
memory_mnemonic (memory_words.Vector word) = vector_memory_mnemonic word

abbrev pub memory_lane_mnemonic : MemoryLaneWord → List ℕ
memory_lane_mnemonic memory_lane_words.V128Load8Lane = codes "v128.load8_lane"
memory_lane_mnemonic memory_lane_words.V128Load16Lane = codes "v128.load16_lane"
memory_lane_mnemonic memory_lane_words.V128Load32Lane = codes "v128.load32_lane"
memory_lane_mnemonic memory_lane_words.V128Load64Lane = codes "v128.load64_lane"
memory_lane_mnemonic memory_lane_words.V128Store8Lane = codes "v128.store8_lane"
memory_lane_mnemonic memory_lane_words.V128Store16Lane = codes "v128.store16_lane"
memory_lane_mnemonic memory_lane_words.V128Store32Lane = codes "v128.store32_lane"
memory_lane_mnemonic memory_lane_words.V128Store64Lane = codes "v128.store64_lane"

abbrev pub word_mnemonic : Word → List ℕ
word_mnemonic (words.Plain word) = plain_mnemonic word
word_mnemonic (words.Name word) = name_mnemonic word
word_mnemonic (words.Block word) = block_mnemonic word
word_mnemonic words.TryTable = codes "try_table"
word_mnemonic (words.Index word) = index_mnemonic word
word_mnemonic (words.Indices word) = indices_mnemonic word
word_mnemonic words.ArrayNewFixed = codes "array.new_fixed"
word_mnemonic words.BrTable = codes "br_table"
word_mnemonic (words.Indirect word) = indirect_mnemonic word
word_mnemonic (words.OptionalIndex word) = optional_index_mnemonic word
word_mnemonic (words.Copy word) = copy_mnemonic word
word_mnemonic (words.Init word) = init_mnemonic word
word_mnemonic words.RefNull = codes "ref.null"
word_mnemonic (words.Ref word) = ref_mnemonic word
word_mnemonic (words.Cast word) = cast_mnemonic word
word_mnemonic words.I32Const = codes "i32.const"
word_mnemonic words.I64Const = codes "i64.const"
word_mnemonic words.F32Const = codes "f32.const"
word_mnemonic words.F64Const = codes "f64.const"
word_mnemonic words.V128Const = codes "v128.const"
word_mnemonic words.Select = codes "select"
word_mnemonic (words.Lane word) = lane_mnemonic word
word_mnemonic words.I8x16Shuffle = codes "i8x16.shuffle"
word_mnemonic (words.Memory word) = memory_mnemonic word
word_mnemonic (words.MemoryLane word) = memory_lane_mnemonic word
word_mnemonic words.AtomicFence = codes "atomic.fence"
word_mnemonic (words.Proposal word) = proposal_mnemonic word
