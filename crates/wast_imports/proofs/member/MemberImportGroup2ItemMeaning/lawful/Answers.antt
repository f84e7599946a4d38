use Rattle.wast_imports.proofs.ImportLaws.{member_name_laws}
use Rattle.wast_imports.proofs.member.MemberImportGroup2ItemMeaning.lawful.Goals as goal

pub returns : goal.returns
returns c = member_name_laws
