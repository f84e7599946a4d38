use Rattle.wast_value_types.proofs.LeadLaws.{group_leads}
use Rattle.wast_signatures.proofs.group.GroupedPeek.leads.Goals as goal

pub returns : goal.returns
returns g c = let s = c.spelled.ensures in group_leads g.N.KeywordName.word g.T.Meaning.syntax c.lawful.ensures s.0 s.1 s.2
