use Rattle.wast_words.proofs.WordLaws.{keyword_laws}
use Rattle.wast_words.proofs.word.WordMeaning.lawful.Goals as goal

pub returns : goal.returns
returns g c = keyword_laws g.T.Written.entries
