pub mod Joins
pub mod Params
pub mod Views
