pub mod ModuleSyntax
pub mod ModuleViews
pub mod Laws
pub mod FieldsAlone
pub use Rattle.wast_module_fields.specs.FieldSyntax
pub use Rattle.wast_module_fields.specs.ModuleFieldViews
