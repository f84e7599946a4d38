use Rattle.wast_words.proofs.WordLaws.{keyword_leads}
use Rattle.wast_words.proofs.word.WordPeek.leads.Goals as goal

pub returns : goal.returns
returns g c = keyword_leads g.T.Written.entries
