-- Folding: a text, and the same with bodies of functions written flat.
use Rattle.std.specs.Prelude.{ℕ, ◌≡◌, ◌↔◌, false, List, []}
use Rattle.wast_grammar.specs.Tokens.{Name}
use Rattle.wast_grammar.specs.Significant.{TextToken, AreSignificant}
use Rattle.wast_grammar.specs.Alike.{Alike, Same, names}
use Rattle.wast_field_syntax.specs.FieldTree.{Expr, Module}
use Rattle.wast_field_syntax.specs.DefinitionSyntax.{expr}
use Rattle.wast_meant.specs.Means.{Worth, IsWorth}
use Rattle.wat_verdict.specs.Registered.{registered}
use Rattle.wat_verdict.specs.Spells.{Spells}
use Rattle.wat_verdict.specs.Alike.{Agree}
use Rattle.wat_laws.specs.Bounds.{WithinBounds}
use Rattle.wat_laws.specs.Flat.{IsFlat, wat}

-- Two texts that lex: one spells a tree, and the other has its tokens, but that bodies of functions are written flat, wherever they stand.
pub record Flattened (text other : List ℕ) : Type 0 where
  pub tree : Module Name ℕ
  pub tokens : List TextToken
  pub flat : List TextToken
  pub others : List TextToken
  pub significant : AreSignificant false registered text tokens × AreSignificant false registered other others
  pub rewritten : wat tree tokens flat
  pub alike : Alike flat others
  pub same : Same (names flat others)

-- They are worth the same: they mean one module, or nothing. Within bounds they fail the same condition, places aside, or get the same
-- binary.
pub record WorthSame (text other : List ℕ) : Type 0 where
  pub worth : (w : Worth) → IsWorth Spells text w ↔ IsWorth Spells other w
  pub agree : WithinBounds text other → Agree text other

abbrev pub Folding : Type 0
Folding = (text other : List ℕ) → Flattened text other → WorthSame text other

-- Each body without hints can be written flat.
abbrev pub EachFlat : Type 0
EachFlat = (e : Expr Name ℕ) (ts : List TextToken) → expr.spells e ts → e.hints ≡ [] → (us : List TextToken) × IsFlat e ts us
