use Rattle.wast_exports.proofs.ExportLaws.{inline_import_leads}
use Rattle.wast_exports.proofs.inline.InlineImportPeek.leads.Goals as goal

pub returns : goal.returns
returns c = inline_import_leads 0
