use Rattle.std.proofs.Common.{[]}
use Rattle.wast_grammar.specs.Tokens.{as_read}
use Rattle.wast_field_syntax.proofs.FieldLeads.{use_of_leads}
use Rattle.wast_field_syntax.proofs.segment.UseOfPeek.leads.Goals as goal

pub returns : goal.returns
returns g c = use_of_leads g.N.KeywordName.word (as_read []) 0
