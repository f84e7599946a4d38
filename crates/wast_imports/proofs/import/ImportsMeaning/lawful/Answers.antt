use Rattle.wast_imports.proofs.ImportLaws.{imports_laws}
use Rattle.wast_imports.proofs.import.ImportsMeaning.lawful.Goals as goal

pub returns : goal.returns
returns c = imports_laws
