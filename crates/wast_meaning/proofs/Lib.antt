pub mod Again
pub mod Counter
mod Examples
pub mod Hints
pub mod Labels
mod Operands
pub mod Resolved
pub mod Settled
pub mod SettledFields
pub mod Taken
pub mod Walked
mod Words
