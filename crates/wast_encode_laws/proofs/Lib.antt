mod Clear
pub mod Covered
pub mod Formed
pub mod FormedKept
mod FormsKept
pub mod Hints
mod Lists
pub mod NameMaps
pub mod Placed
pub mod Ready
pub mod Starts
pub mod Trees
