pub mod Alone
pub mod Counting
pub mod FreshNames
pub mod Offsets
pub mod Parts
pub mod Rounding
