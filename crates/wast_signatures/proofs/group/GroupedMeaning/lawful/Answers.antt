use Rattle.wast_value_types.proofs.GrammarLaws.{group_laws}
use Rattle.wast_signatures.proofs.group.GroupedMeaning.lawful.Goals as goal

pub returns : goal.returns
returns g c = group_laws g.N.KeywordName.word g.T.Meaning.syntax c.lawful.ensures g.met.T.Body.ended
