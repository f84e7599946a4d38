pub mod UniqueDump
pub mod UniqueNames
pub mod UniqueParts
