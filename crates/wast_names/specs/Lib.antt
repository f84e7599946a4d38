pub mod Demand
pub mod Laws
pub mod Position
pub mod Space
pub mod Views
pub mod Walk
