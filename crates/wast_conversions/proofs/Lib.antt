mod Constants
pub mod Each
pub mod Empty
mod Expressions
pub mod Logarithms
pub mod Opcodes
mod Refused
mod Signatures
pub mod Trees
