use Rattle.std.proofs.Common.{codes}
use Rattle.wast_binary.proofs.Left.{Left, takes}
use Rattle.wast_binary.proofs.names_section.is_name_taken.Given as goal

abbrev pub invariant-loop-field : goal.invariant-loop-field
invariant-loop-field l = Left (takes (codes "name")) l.fields l.field-index
