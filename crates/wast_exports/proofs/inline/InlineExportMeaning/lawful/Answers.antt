use Rattle.wast_exports.proofs.ExportLaws.{inline_export_laws}
use Rattle.wast_exports.proofs.inline.InlineExportMeaning.lawful.Goals as goal

pub returns : goal.returns
returns c = inline_export_laws
