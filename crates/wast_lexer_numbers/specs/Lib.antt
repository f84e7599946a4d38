pub mod Numbers
pub mod NumberParts
pub mod NumberScan
pub mod FloatSteps
pub mod Laws
