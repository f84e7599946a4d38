use Rattle.wast_customs.proofs.CustomLaws.{raw_section_leads}
use Rattle.wast_customs.proofs.custom_syntax.RawCustomSectionPeek.leads.Goals as goal

pub returns : goal.returns
returns c = raw_section_leads 0
