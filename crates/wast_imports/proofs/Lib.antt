pub mod Groups
pub mod ImportLaws
pub mod Members
pub mod Samples
