pub use Rattle.wast_field_syntax.proofs.ExpressionLaws
pub use Rattle.wast_field_syntax.proofs.FieldLaws
pub use Rattle.wast_field_syntax.proofs.FieldSamples
