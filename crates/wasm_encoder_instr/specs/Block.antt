-- Block types (WebAssembly 3.0, 5.4).
use Rattle.wasm_encoder_base.specs.Instr as binary
use Rattle.wasm_encoder_base.specs.Views.{val_view}
use Rattle.wasm_encoder_instr.specs.declared.block.BlockType.{BlockType}
use Rattle.wasm_encoder_instr.specs.declared.block.BlockType.TheVariants.{Empty, Result, FunctionType}

-- the same block type
abbrev pub block_view : BlockType → binary.BlockType
block_view Empty = binary.NoResult
block_view (Result val_type) = binary.Result (val_view val_type)
block_view (FunctionType index) = binary.FunctionType index
