pub mod Judging
pub mod OfAnyKind
