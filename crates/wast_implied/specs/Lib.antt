pub mod Shapes
pub mod Known
pub mod Views
