pub mod Appended
pub mod DataLaws
