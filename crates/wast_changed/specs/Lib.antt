pub mod Instructions
pub mod Memory
pub mod Rewritten
pub mod Rows
