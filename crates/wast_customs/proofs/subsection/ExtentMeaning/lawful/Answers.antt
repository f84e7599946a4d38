use Rattle.wast_customs.proofs.DylinkLaws.{extent_laws}
use Rattle.wast_customs.proofs.subsection.ExtentMeaning.lawful.Goals as goal

pub returns : goal.returns
returns g c = extent_laws g.N.KeywordName.word
