pub mod InPlace
mod Instructions
mod Rows
mod Trees
