use Rattle.wast_exports.proofs.ExportLaws.{export_kind_leads}
use Rattle.wast_exports.proofs.export.ExportKindPeek.leads.Goals as goal

pub returns : goal.returns
returns c = export_kind_leads
