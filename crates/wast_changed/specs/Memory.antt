-- What may take memory where it is rewritten: a type use that has no index takes one.
use Rattle.std.specs.Prelude.{Bool, false, not, ◌&&◌, is_some}
use Rattle.wast_signatures.specs.declared.type_use.TypeUse.{TypeUse}
use Rattle.wast_signatures.specs.declared.signature.FunctionType.{FunctionType}
use Rattle.wast_imports.specs.declared.item.ItemKind.{ItemKind}
use Rattle.wast_imports.specs.declared.item.ItemKind.TheVariants as kinds
use Rattle.wast_imports.specs.declared.item.TagType.TheVariants.{Exception}
use Rattle.wast_core_instr.specs.declared.instruction.Instruction.{Instruction}
use Rattle.wast_core_instr.specs.declared.instruction.Instruction.TheVariants as instructions

-- a type use
abbrev pub use_may_take : TypeUse FunctionType → Bool
use_may_take u = not (is_some u.index)

-- a block, only where a signature is written
abbrev pub block_may_take : TypeUse FunctionType → Bool
block_may_take u = is_some u.inline && not (is_some u.index)

-- an external type
abbrev pub kind_may_take : ItemKind → Bool
kind_may_take (kinds.Func ty) = use_may_take ty
kind_may_take (kinds.FuncExact ty) = use_may_take ty
kind_may_take (kinds.Tag (Exception ty)) = use_may_take ty
kind_may_take _ = false

-- an instruction: a block, or an indirect call
abbrev pub may_take : Instruction → Bool
may_take (instructions.Block block) = block_may_take block.value.ty
may_take (instructions.Loop block) = block_may_take block.value.ty
may_take (instructions.If block) = block_may_take block.value.ty
may_take (instructions.Try block) = block_may_take block.value.ty
may_take (instructions.TryTable try_table) = block_may_take try_table.block.value.ty
may_take (instructions.CallIndirect call) = use_may_take call.value.ty
may_take (instructions.ReturnCallIndirect call) = use_may_take call.value.ty
may_take _ = false
