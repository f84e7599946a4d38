-- A law that the crate's law functions prove beside those that they hand on.
use Rattle.std.specs.Prelude.{ℕ, ◌≡◌, List}
use Rattle.wast_grammar.specs.Tokens.{Name, SignificantToken}
use Rattle.wast_field_syntax.specs.FieldTree.{Module}
use Rattle.wast_core.specs.ModuleSyntax.{wat}

-- No tokens spell two modules, places included.
abbrev pub OneTree : Type 0
OneTree = (ts : List (SignificantToken Name ℕ)) (a b : Module Name ℕ) → wat.spells a ts → wat.spells b ts → a ≡ b
