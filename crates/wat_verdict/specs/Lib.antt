pub mod Alike
pub mod Laws
pub mod Naming
pub mod Registered
pub mod Spaced
pub mod Spells
pub mod Verdict
