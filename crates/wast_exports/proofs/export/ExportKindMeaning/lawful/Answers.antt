use Rattle.wast_exports.proofs.ExportLaws.{export_kind_laws}
use Rattle.wast_exports.proofs.export.ExportKindMeaning.lawful.Goals as goal

pub returns : goal.returns
returns c = export_kind_laws
