use Rattle.std.proofs.Common.{◌≡◌, map, take}
use Rattle.wast_imports.proofs.import.sigs_of_each.Given as goal

abbrev pub invariant-loop-item : goal.invariant-loop-item
invariant-loop-item l = map (λ s. s.now) l.sigs.items ≡ map (λ i. i.sig) (take l.item-index l.items)
