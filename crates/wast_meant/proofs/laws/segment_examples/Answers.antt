use Rattle.wast_meant.proofs.Computed as computed
use Rattle.wast_meant.proofs.laws.segment_examples.Goals as goal

pub returns : goal.returns
returns c = computed.segments
