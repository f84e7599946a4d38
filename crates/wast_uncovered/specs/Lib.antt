pub mod First
pub mod Told
