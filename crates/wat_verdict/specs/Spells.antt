-- Which tree a text spells (WebAssembly 3.0, 6.1 to 6.3).
use Rattle.std.specs.Prelude.{ℕ, false, List, [], ◌∷◌}
use Rattle.wast_grammar.specs.Tokens.{Name}
use Rattle.wast_parser.specs.Look.{NotEnd}
use Rattle.wast_parser.specs.Grammar.{Syntax}
use Rattle.wast_parser.specs.Behind.{ended}
use Rattle.wast_parser.specs.Significant.{TextToken, AreSignificant}
use Rattle.wast_field_syntax.specs.FieldTree.{Module}
use Rattle.wast_core.specs.ModuleSyntax.{wat}
use Rattle.wat_verdict.specs.Registered.{registered}

-- spelled as it is, and read where an end is behind it
abbrev pub alone : {N P A : Type 0} → Syntax N P A → Syntax N P A
alone g = record g { reads = ended g.reads; stops = NotEnd ∷ [] }

-- The text is cut into tokens, without the refused characters in any, and those that are significant spell the tree. It has
-- no significant tokens where it can't be cut so, or where the group of an annotation that isn't registered isn't closed.
-- What strings and names of annotations stand for is read by `string_value` and `marked_value`, which laws of `wat` and of
-- `wast_grammar` tie to the lexer's relations.
pub record Spells (text : List ℕ) (tree : Module Name ℕ) : Type 0 where
  pub tokens : List TextToken
  pub significant : AreSignificant false registered text tokens
  pub spelled : wat.spells tree tokens
