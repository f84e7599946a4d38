use Rattle.wast_imports.proofs.ImportLaws.{export_type_laws}
use Rattle.wast_imports.proofs.export_type.ExportTypeMeaning.lawful.Goals as goal

pub returns : goal.returns
returns c = export_type_laws
