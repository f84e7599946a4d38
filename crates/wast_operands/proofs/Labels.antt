-- The last of some labels.
use Rattle.std.proofs.Common.{◌≡◌, List, [], ◌∷◌, ◌++◌, map, refl, ap}
use Rattle.wast_operands.specs.OperandSyntax.{but_last}

pub last_is : {A B : Type 0} (f : A → B) (a : A) (xs ys : List A) (z : A) → xs ≡ ys ++ z ∷ [] → (map f (a ∷ ys), f z) ≡ but_last (f a) (map f xs)
last_is f a xs [] z e = rw e refl
last_is f a xs (y ∷ ys) z e = rw e (ap (λ p. (f a ∷ p.0, p.1)) (last_is f y (ys ++ z ∷ []) ys z refl))
