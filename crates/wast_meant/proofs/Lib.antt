pub mod Computed
pub mod OneMeaning
pub mod Renamed
pub mod Stands
