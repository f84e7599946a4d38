pub mod Covered
pub mod Instructions
pub mod Operands
pub mod Resolved
pub mod Rows
pub mod Types
