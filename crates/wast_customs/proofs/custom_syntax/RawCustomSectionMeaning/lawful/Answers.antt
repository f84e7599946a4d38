use Rattle.wast_customs.proofs.CustomLaws.{raw_section_laws}
use Rattle.wast_customs.proofs.custom_syntax.RawCustomSectionMeaning.lawful.Goals as goal

pub returns : goal.returns
returns c = raw_section_laws
