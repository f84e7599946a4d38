pub mod OperandSyntax
pub mod OperandTree
pub mod OperandViews
pub use Rattle.wast_vector_operands.specs.VectorSyntax
pub use Rattle.wast_vector_operands.specs.VectorTree
pub use Rattle.wast_vector_operands.specs.VectorViews
