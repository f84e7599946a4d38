use Rattle.wast_words.proofs.WordLaws.{alone_leads}
use Rattle.wast_words.proofs.group.GroupPeek.leads.Goals as goal

pub returns : goal.returns
returns g c = alone_leads g.N.KeywordName.word
