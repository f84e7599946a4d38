pub mod Definitions
pub mod Laws
