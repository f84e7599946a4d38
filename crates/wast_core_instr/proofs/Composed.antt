-- What is read is seen as another value.
use Rattle.std.proofs.Common.{◌≡◌, ℕ, List, ap, ◌∙◌, Option, Some}
use Rattle.wast_typed_operands.specs.Tokens.{Name}
use Rattle.wast_typed_operands.specs.Tokens.{SignificantToken}
use Rattle.wast_typed_operands.specs.Grammar.{Syntax, seen}
use Rattle.wast_typed_operands.specs.Spelling.{◌>>=◌}
use Rattle.wast_typed_operands.specs.Reading.{Refuses}
use Rattle.wast_typed_operands.specs.Problem.{Problem}
use Rattle.wast_typed_operands.proofs.States.{refuses_all}

module _ {A B : Type 0} (f : A → B) (g : Syntax Name ℕ A) (ts : List (SignificantToken Name ℕ)) where
  abbrev again : Option (A × List (SignificantToken Name ℕ)) → Option (B × List (SignificantToken Name ℕ))
  again o = o >>= λ x. Some (f x.0, x.1)

  pub read_as : (a : A) (b : B) (rest : List (SignificantToken Name ℕ)) → g.reads ts ≡ Some (a, rest) → f a ≡ b → (seen f g).reads ts ≡ Some (b, rest)
  read_as a b rest r e = ap again r ∙ ap (λ z. Some (z, rest)) e

  pub refused_as : (p : Problem) → Refuses p (g.reads ts) → Refuses p ((seen f g).reads ts)
  refused_as p = refuses_all p (g.reads ts) ((seen f g).reads ts) (ap again)
