pub mod Numbered
pub mod NumberedViews
pub mod Open
pub mod Signatures
pub mod Known
pub mod Views
pub mod Laws
