-- The laws that the crate's law functions prove.
use Rattle.std.specs.Prelude.{◌≡◌, ◌↔◌, ◌⊎◌, ℕ, true, false, List, [], Some}
use Rattle.wast_grammar.specs.Tokens.{Name}
use Rattle.wast_grammar.specs.Significant.{TextToken}
use Rattle.wast_grammar.specs.Look.{any_end}
use Rattle.wast_grammar.specs.Grammar.{Syntax}
use Rattle.wast_parser_core.specs.Standing.{Behind, is_outside}
use Rattle.wast_parser_core.specs.State.{State, standing, Keeps}

-- Where an end may follow it, tokens spell a value exactly where reading takes all of them and answers it.
abbrev pub ReadWhereSpelled : {A : Type 0} → Syntax Name ℕ A → Type 0
ReadWhereSpelled {A} g = any_end g.stops ≡ false → (v : A) (ts : List TextToken) → g.spells v ts ↔ (g.reads ts ≡ Some (v, []))

-- Where an end may follow it, no tokens spell two values.
abbrev pub OneValue : {A : Type 0} → Syntax Name ℕ A → Type 0
OneValue {A} g = any_end g.stops ≡ false → (v w : A) (ts : List TextToken) → g.spells v ts → g.spells w ts → v ≡ w

-- A parser that reads stands where it did, or directly behind a significant token: it passes nothing behind the last that it takes.
abbrev pub StaysOrStandsBehind : Type 0
StaysOrStandsBehind = (old new : State) → is_outside (standing old) ≡ true → Keeps old new → (new.at ≡ old.at) ⊎ (standing new ≡ Behind)
