use Rattle.wast_exports.proofs.ExportLaws.{export_name_laws}
use Rattle.wast_exports.proofs.inline.ExportNameMeaning.lawful.Goals as goal

pub returns : goal.returns
returns c = export_name_laws
