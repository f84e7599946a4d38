use Rattle.wast_core_types.proofs.TypeLaws.{described_laws}
use Rattle.wast_core_types.proofs.definition.DescribedMeaning.lawful.Goals as goal

pub returns : goal.returns
returns c = described_laws
