pub mod CustomTree
pub mod Dylink
pub mod DylinkSyntax
pub mod CustomSyntax
pub mod CustomViews
pub mod Laws
