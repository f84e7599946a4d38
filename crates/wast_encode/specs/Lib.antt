pub mod Encoded
pub mod Faults
pub mod Resolved
