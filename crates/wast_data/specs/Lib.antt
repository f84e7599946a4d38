pub mod DataSyntax
pub mod DataTree
pub mod DataViews
