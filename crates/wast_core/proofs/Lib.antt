pub mod Alone
pub mod Examples
pub mod ModuleLaws
