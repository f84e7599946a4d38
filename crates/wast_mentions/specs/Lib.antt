pub mod Judging
pub mod Views
