pub mod Begins
pub mod DylinkLaws
pub mod CustomLaws
pub mod Joins
pub mod Flags
pub mod Looks
pub mod Encodings
