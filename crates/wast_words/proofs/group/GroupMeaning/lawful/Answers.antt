use Rattle.wast_words.proofs.WordLaws.{alone_laws}
use Rattle.wast_words.proofs.group.GroupMeaning.lawful.Goals as goal

pub returns : goal.returns
returns g c = alone_laws g.N.KeywordName.word
