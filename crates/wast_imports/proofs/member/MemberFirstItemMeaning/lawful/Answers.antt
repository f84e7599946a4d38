use Rattle.wast_imports.proofs.ImportLaws.{first_member_laws}
use Rattle.wast_imports.proofs.member.MemberFirstItemMeaning.lawful.Goals as goal

pub returns : goal.returns
returns c = first_member_laws
