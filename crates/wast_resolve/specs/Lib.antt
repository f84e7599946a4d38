pub mod Known
pub mod Resolving
pub mod Whole
