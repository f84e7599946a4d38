use Rattle.wast_field_syntax.proofs.FieldLaws.{use_of_laws}
use Rattle.wast_field_syntax.proofs.segment.UseOfMeaning.lawful.Goals as goal

pub returns : goal.returns
returns g c = use_of_laws g.N.KeywordName.word
