pub mod AbstractModule
pub mod Examples
pub mod IsModule
pub mod Laws
pub mod Layout
pub mod Lays
pub mod Present
pub mod Section
