-- What a call gives, said otherwise.
use Rattle.std.proofs.Common.{◌≡◌, Result, subst}
use Rattle.std.specs.Prelude.{OnOk}

pub gives : {A E T : Type 0} (r : Result A E) (x : T) (y z : T) → y ≡ z → OnOk r (x ≡ y) → OnOk r (x ≡ z)
gives r x y z e h = subst (λ t. OnOk r (x ≡ t)) e h
