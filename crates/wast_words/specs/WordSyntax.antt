-- Values that are written as one keyword, and words that may stand (WebAssembly 3.0, 6.2.2).
use Rattle.std.specs.Prelude.{ℕ, List, [], ◌∷◌, map, false, Bool, is_some}
use Rattle.wast_parser.specs.Look.{Test, On, OneOf, AWord, this_word}
use Rattle.wast_parser.specs.Grammar.{Syntax, among, word, seen, maybe, paren}

-- a look for one of these keywords
abbrev pub keywords : {A : Type 0} → List (List ℕ × A) → List Test
keywords entries = On false AWord (OneOf (map (λ e. e.0) entries) []) ∷ []

module _ {N P : Type 0} where
  -- a keyword of these, by what it stands for
  abbrev pub keyword : {A : Type 0} → List (List ℕ × A) → Syntax N P A
  keyword entries = seen (λ x. x.0.1) (among (λ e. e.0) entries [])

  -- whether this word stands there
  abbrev pub optional : List ℕ → Syntax N P Bool
  optional w = seen is_some (maybe (this_word w ∷ []) (word w))

  -- this word in parentheses
  abbrev pub alone : List ℕ → Syntax N P (Unit {0})
  alone w = seen (λ _. tt) (paren (word w))
