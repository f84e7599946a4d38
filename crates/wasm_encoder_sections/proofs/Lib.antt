pub mod Refused
pub mod Short
