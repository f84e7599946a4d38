pub mod Calls
pub mod Selects
pub mod TypedLaws
pub use Rattle.wast_signatures.proofs.Looks
pub use Rattle.wast_signatures.proofs.States
pub use Rattle.wast_signatures.proofs.GrammarLaws
pub use Rattle.wast_signatures.proofs.IdentifierLaws
pub use Rattle.wast_signatures.proofs.ValueLaws
