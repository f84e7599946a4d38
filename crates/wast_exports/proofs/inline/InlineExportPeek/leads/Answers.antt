use Rattle.wast_exports.proofs.ExportLaws.{inline_export_leads}
use Rattle.wast_exports.proofs.inline.InlineExportPeek.leads.Goals as goal

pub returns : goal.returns
returns c = inline_export_leads 0
