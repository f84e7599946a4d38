use Rattle.wast_imports.proofs.Samples.{first_member_leads}
use Rattle.wast_imports.proofs.member.MemberFirstItemPeek.leads.Goals as goal

pub returns : goal.returns
returns c = first_member_leads 0
