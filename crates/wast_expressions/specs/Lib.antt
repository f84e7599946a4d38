pub mod Expressions
pub mod Heeds
pub mod Items
pub mod Laws
pub mod Machine
pub mod Partial
pub mod Views
