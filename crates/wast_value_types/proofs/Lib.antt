mod Equal
mod Exponents
pub mod ValueLaws
pub use Rattle.wast_words.proofs.JoinedLooks
pub use Rattle.wast_words.proofs.WordLaws
pub use Rattle.wast_words.proofs.Looks
pub use Rattle.wast_words.proofs.GrammarLaws
pub use Rattle.wast_words.proofs.IdentifierLaws
pub use Rattle.wast_words.proofs.LeadLaws
pub use Rattle.wast_words.proofs.IntegerLaws
pub use Rattle.wast_words.proofs.States
