use Rattle.std.proofs.Common.{◌≡◌, map, take}
use Rattle.wast_imports.proofs.import.sig_of_all.Given as goal

abbrev pub invariant-loop-item : goal.invariant-loop-item
invariant-loop-item l = map (λ s. s.now) l.sigs.items ≡ map (λ _. l.sig) (take l._item-index l.items)
