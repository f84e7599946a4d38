pub mod Bounds
pub mod Formed
pub mod Laws
pub mod Orderings
pub mod Ready
