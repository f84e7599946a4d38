mod Blocks
mod Pairs
pub mod Told
pub mod Module
pub mod Either
mod Adds
mod Judged
mod Scopes
mod Walks
mod Ids
pub mod Outcomes
