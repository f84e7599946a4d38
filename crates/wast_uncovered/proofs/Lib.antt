mod EachField
mod Told
mod Written
pub mod First
