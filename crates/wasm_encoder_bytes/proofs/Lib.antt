pub mod LebSteps
pub mod ListLaws
pub mod ReadSteps
pub mod Shortest
pub mod UniqueBytes
pub mod UniqueLeb
pub mod UniqueParts
