pub mod Begins
mod Grouped
pub mod ModuleFieldLaws
pub mod ModuleFieldLeads
pub use Rattle.wast_fields.proofs.ExpressionLaws
pub use Rattle.wast_fields.proofs.FieldLaws
pub use Rattle.wast_fields.proofs.FieldSamples
