use Rattle.wast_parser_core.proofs.IdentifierLaws.{item_ref_laws}
use Rattle.wast_parser_core.proofs.identifier.ItemRefKeywordMeaning.lawful.Goals as goal

pub returns : goal.returns
returns g c = item_ref_laws g.N.KeywordName.word
