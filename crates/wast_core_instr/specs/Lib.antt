pub mod ExpressionViews
pub mod InstructionGroups
pub mod InstructionSyntax
pub mod InstructionTree
pub mod InstructionViews
pub mod WordViews
pub use Rattle.wast_operands.specs.OperandTree
pub use Rattle.wast_typed_operands.specs.TypedTree
