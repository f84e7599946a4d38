pub mod Codes
pub mod Laws
pub mod Sections
pub mod Writes
