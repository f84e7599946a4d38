pub mod Entries
pub mod Gathering
pub mod Joining
pub mod Meant
pub mod Ordered
