use Rattle.wast_binary.proofs.NotedFields.{NotedSoFar}
use Rattle.wast_binary.proofs.present.Present.of.Given as goal

abbrev pub invariant-loop-field : goal.invariant-loop-field
invariant-loop-field l = NotedSoFar l.present l.fields l.field-index
