pub mod Faults
pub mod Identifier
pub mod Indices
pub mod Laws
pub mod Names
pub mod Problem
pub mod Reasons
pub mod Snippet
