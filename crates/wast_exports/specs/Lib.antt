pub mod Exports
pub mod ExportViews
