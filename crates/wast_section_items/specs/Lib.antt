pub mod Appends
pub mod Fits
pub mod One
pub mod Parts
pub mod Ready
pub mod Sound
