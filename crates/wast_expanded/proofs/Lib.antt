mod Expands
pub mod Given
