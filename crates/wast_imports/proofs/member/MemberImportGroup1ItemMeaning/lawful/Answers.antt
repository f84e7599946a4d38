use Rattle.wast_imports.proofs.ImportLaws.{member_laws}
use Rattle.wast_imports.proofs.member.MemberImportGroup1ItemMeaning.lawful.Goals as goal

pub returns : goal.returns
returns c = member_laws
