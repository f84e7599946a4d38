pub mod BranchHints
pub mod CoreDump
pub mod Custom
pub mod Laws
pub mod Linking
pub mod Names
pub mod Producers
