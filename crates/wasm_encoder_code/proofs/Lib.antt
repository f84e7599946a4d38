pub mod Front
pub mod Joined
pub mod JoinedRuns
pub mod Places
pub mod Runs
pub mod Unique
