-- An error, whatever else could have been answered.
use Rattle.std.proofs.Common.{◌≡◌, ap}
use Rattle.std.specs.Prelude.{Err, IsErrOf}

pub same_error : {A B E : Type 0} {e f : E} → IsErrOf {T = A} {E = E} (Err e) f → IsErrOf {T = B} {E = E} (Err e) f
same_error {e = e} {f = f} h = let same : e ≡ f = cc in ap Err same
