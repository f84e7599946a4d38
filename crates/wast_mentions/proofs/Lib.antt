pub mod Judging
pub mod Rows
pub mod Turns
