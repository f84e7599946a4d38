pub mod Formed
pub mod Powers
