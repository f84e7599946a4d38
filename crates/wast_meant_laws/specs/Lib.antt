pub mod Laws
pub mod Renamed
pub mod Stops
