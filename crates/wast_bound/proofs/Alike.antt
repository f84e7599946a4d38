-- A group in which all is alike.
use Rattle.std.proofs.Common.{◌≡◌, ◌<◌, Bool, true, false, ◌||◌, List, [], ◌∷◌, map, length, refl, sym, ◌∙◌, ap, arith}
use Rattle.std.specs.List.{list_any}

or_same : (b : Bool) → (b || b) ≡ b
or_same true = refl
or_same false = refl

or_false : (b : Bool) → (b || false) ≡ b
or_false true = refl
or_false false = refl

-- where there are members, one passes a test if the item that they share does
pub alike_some : {X Y : Type 0} (p : Y → Bool) (y : Y) (x : X) (xs : List X) → list_any p (map (λ z. y) (x ∷ xs)) ≡ p y
alike_some p y x [] = or_false (p y)
alike_some p y x (z ∷ xs) = ap (λ b. p y || b) (alike_some p y z xs) ∙ or_same (p y)

pub alike_named : {X Y Z : Type 0} (p : Y → Bool) (y : Y) (view : Z → X) (xs : List Z) → 0 < length xs → p y ≡ list_any p (map (λ x. y) (map view xs))
alike_named p y view [] lt = absurd (omega (arith, lt))
alike_named p y view (x ∷ xs) lt = sym (alike_some p y (view x) (map view xs))
