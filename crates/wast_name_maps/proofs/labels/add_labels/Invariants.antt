use Rattle.std.proofs.Common.{take}
use Rattle.std.specs.List.{flat_map}
use Rattle.wast_name_maps.specs.Numbered.{NamesJoined}
use Rattle.wast_name_maps.proofs.Gathering.{code_labels}
use Rattle.wast_name_maps.proofs.labels.add_labels.Given as goal

abbrev pub invariant-loop-instruction : goal.invariant-loop-instruction
invariant-loop-instruction l = NamesJoined l.fn.names l.names (flat_map code_labels (take l.instruction-index l.instructions))
