use Rattle.std.proofs.Common.{◌≡◌, ◌∷◌, map}
use Rattle.wast_imports.proofs.member.with_more.Given as goal

abbrev pub invariant-loop-member : goal.invariant-loop-member
invariant-loop-member g l = l.items.items ≡ l.fn.first ∷ map (λ m. m.item) l.yielded
