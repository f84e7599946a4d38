-- What may stand somewhere is read where it begins.
use Rattle.std.proofs.Common.{◌≡◌, ℕ, List, Option, Some, None, true, refl}
use Rattle.wast_parser.specs.Tokens.{Name}
use Rattle.wast_parser.specs.Significant.{TextToken}
use Rattle.wast_parser.specs.Look.{Test, ask}
use Rattle.wast_parser.specs.Grammar.{Reader, map_reads, maybe_reads}

module _ {A B : Type 0} (f : Option A → B) (starts : List Test) (reads : Reader Name ℕ A) (ts : List TextToken) (there : ask starts ts ≡ Some true) where
  pub taken : (a : A) (rest : List TextToken) → reads ts ≡ Some (a, rest) → map_reads f (maybe_reads starts reads) ts ≡ Some (f (Some a), rest)
  taken a rest read = rw (there, read) refl

  pub refused : reads ts ≡ None → map_reads f (maybe_reads starts reads) ts ≡ None
  refused read = rw (there, read) refl
