pub mod Heads
pub mod Laws
pub mod Mnemonics
pub mod ProposalMnemonics
pub mod Rows
pub mod Samples
pub mod TextTable
pub mod Words
