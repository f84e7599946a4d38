pub mod Fields
pub mod Joins
pub mod Ordered
pub mod Written
