-- What reading a text answers where it gives no tree. No part of a promise.
use Rattle.std.specs.Prelude.{ℕ, ◌≡◌, ◌⊎◌, true, List}
use Rattle.wast_grammar.specs.Tokens.{Name}
use Rattle.wast_parser.specs.Problem.{Problem, is_memory}
use Rattle.wast_field_syntax.specs.FieldTree.{Module}
use Rattle.wat_verdict.specs.Spells.{Spells}

-- No memory was found, or the text spells no tree.
abbrev pub IsUnspelled : List ℕ → Problem → Type 0
IsUnspelled text error = (is_memory error.cause ≡ true) ⊎ ((tree : Module Name ℕ) → ¬ (Spells text tree))
