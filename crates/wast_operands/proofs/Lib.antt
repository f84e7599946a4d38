pub mod Digits
pub mod Labels
pub mod Lanes
pub mod OperandExamples
pub mod OperandLaws
pub mod Said
pub use Rattle.wast_vector_operands.proofs.VectorLaws
