use Rattle.wast_exports.proofs.ExportLaws.{export_name_leads}
use Rattle.wast_exports.proofs.inline.ExportNamePeek.leads.Goals as goal

pub returns : goal.returns
returns c = export_name_leads 0
