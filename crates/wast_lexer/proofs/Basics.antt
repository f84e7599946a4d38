-- Small laws of tests and lists.
use Rattle.std.proofs.Common.{◌≡◌, Bool, true, false, ◌⊎◌, inl, inr, Option, Some, None, refl}
pub use Rattle.wast_lexer_numbers.proofs.ByteLaws.{all_append}

pub apart : {b : Bool} → b ≡ false → b ≡ true → ⊥
apart f t = cc

pub cases_option : {A : Type 0} (o : Option A) → (o ≡ None) ⊎ ((x : A) × (o ≡ Some x))
cases_option None = inl refl
cases_option (Some x) = inr (x, refl)
