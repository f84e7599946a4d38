use Rattle.wat_verdict.proofs.OneSpelling.{text_laws}
use Rattle.wat.proofs.text.WholeMeaning.lawful.Goals as goal

pub returns : goal.returns
returns c = text_laws
