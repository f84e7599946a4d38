use Rattle.wast_imports.proofs.ImportLaws.{head_laws}
use Rattle.wast_imports.proofs.head.HeadMeaning.lawful.Goals as goal

pub returns : goal.returns
returns c = head_laws
