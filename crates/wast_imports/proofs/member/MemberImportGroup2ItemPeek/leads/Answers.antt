use Rattle.wast_imports.proofs.Samples.{member_name_leads}
use Rattle.wast_imports.proofs.member.MemberImportGroup2ItemPeek.leads.Goals as goal

pub returns : goal.returns
returns c = member_name_leads 0
