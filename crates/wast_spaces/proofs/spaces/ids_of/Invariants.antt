use Rattle.std.proofs.Common.{◌≡◌, map, take}
use Rattle.wast_spaces.proofs.spaces.ids_of.Given as goal

abbrev pub invariant-loop-field : goal.invariant-loop-field
invariant-loop-field l = l.ids.items ≡ map (λ f. f.id) (take l.field-index l.fields)
