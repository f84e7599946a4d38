pub mod Demands
pub mod Duplicates
pub mod Items
pub mod Order
pub mod Positions
pub mod Spaces
pub mod Walk
