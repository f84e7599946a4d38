use Rattle.wast_exports.proofs.ExportLaws.{inline_import_laws}
use Rattle.wast_exports.proofs.inline.InlineImportMeaning.lawful.Goals as goal

pub returns : goal.returns
returns c = inline_import_laws
