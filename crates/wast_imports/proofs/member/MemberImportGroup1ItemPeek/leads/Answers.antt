use Rattle.wast_imports.proofs.Samples.{member_leads}
use Rattle.wast_imports.proofs.member.MemberImportGroup1ItemPeek.leads.Goals as goal

pub returns : goal.returns
returns c = member_leads 0
