mod Joined
mod Labelled
pub mod Unnamed
