pub mod Displayed
pub mod Lines
pub mod Places
pub mod Shown
