pub mod Params
pub mod Place
pub mod Steps
