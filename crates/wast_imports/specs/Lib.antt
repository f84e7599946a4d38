pub mod ImportTree
pub mod ImportSyntax
pub mod ImportViews
