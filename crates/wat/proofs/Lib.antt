pub mod Deserved
pub mod Places
pub mod Reading
pub mod Runs
