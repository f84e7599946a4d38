pub mod Composed
pub mod GroupKinds
pub mod GroupLaws
pub mod InstructionLaws
pub mod MemArgs
pub mod Worded
