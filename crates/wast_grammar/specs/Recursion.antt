-- Productions that stand in themselves, inside parentheses of their own.
use Rattle.std.specs.Prelude.{ℕ, zero, suc, Bool, List, length, None}
use Rattle.wast_grammar.specs.Spelling as spelling
use Rattle.wast_grammar.specs.Twins as twins
use Rattle.wast_grammar.specs.Look.{Test}
use Rattle.wast_grammar.specs.Grammar.{Syntax, wide}

-- spelled by no tokens
abbrev pub never : {N P A : Type 0} → List Test → Bool → List Test → Syntax N P A
never starts empty stops = record {
  spells = λ a ts. ⊥;
  twins = λ a ts us. ⊥;
  reads = λ ts. None;
  starts = starts;
  empty = empty;
  stops = stops;
}

-- a production by what stands within it, so deep; its bounds are given
abbrev pub deep : {N P A : Type 0} → List Test → Bool → List Test → (Syntax N P A → Syntax N P A) → ℕ → Syntax N P A
deep starts empty stops step zero = never starts empty stops
deep starts empty stops step (suc n) = step (wide starts empty stops (deep starts empty stops step n))

-- The production that stands in itself: what it spells at some depth. What is read is no deeper than it is long.
abbrev pub fix : {N P A : Type 0} → List Test → Bool → List Test → (Syntax N P A → Syntax N P A) → Syntax N P A
fix starts empty stops step = record {
  spells = spelling.some_deep (λ n. (deep starts empty stops step n).spells);
  twins = twins.some_deep (λ n. (deep starts empty stops step n).twins);
  reads = λ ts. (deep starts empty stops step (suc (length ts))).reads ts;
  starts = starts;
  empty = empty;
  stops = stops;
}
