-- The syntax of what stands in all places.
use Rattle.std.specs.Prelude.{ℕ, List, Option}
use Rattle.std.specs.Str.{is_utf8}
use Rattle.wast_grammar.specs.Tokens.{Literal}
use Rattle.wast_grammar.specs.Grammar.{Syntax, integer, string, only}
use Rattle.wast_parser_core.specs.Literals.{is_within}

module _ {N P : Type 0} where
  -- an integer of a range (6.3.1)
  abbrev pub ranged : ℕ → Option ℕ → Syntax N P (Literal × P)
  ranged most least = only (λ l. is_within most least l.0) integer

  -- a name: a string that is UTF-8 (6.3.4)
  abbrev pub name : Syntax N P (List ℕ)
  name = only is_utf8 string
