pub mod Hinted
pub mod Hints
pub mod Parts
