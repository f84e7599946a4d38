use Rattle.wast_exports.proofs.ExportLaws.{export_laws}
use Rattle.wast_exports.proofs.export.ExportMeaning.lawful.Goals as goal

pub returns : goal.returns
returns c = export_laws
