pub use Rattle.wast_value_types.specs.ValueTree
pub use Rattle.wast_value_types.specs.ValueSyntax
pub use Rattle.wast_value_types.specs.ValueViews
pub use Rattle.wast_signatures.specs.TypeTree
pub use Rattle.wast_signatures.specs.TypeSyntax
pub use Rattle.wast_signatures.specs.SignatureViews
pub mod TypeViews
pub mod Depths
