-- The laws of expressions that the crate's law functions prove.
use Rattle.std.specs.Prelude.{◌≡◌, ◌≤◌, ◌-◌, ℕ, suc, false, List, [], ◌∷◌, ◌++◌, length, map, take, Option, Some, codes}
use Rattle.wast_grammar.specs.Tokens.{SignificantToken, Word}
use Rattle.wast_grammar.specs.Spelling.{◌>>=◌}
use Rattle.wast_grammar.specs.Look.{NotEnd, at}
use Rattle.wast_grammar.specs.Grammar.{Syntax, maybe}
use Rattle.wast_expressions.specs.Items.{Items, Made, unfolded, hints_from, expression_of}
use Rattle.wast_expressions.specs.Expressions.{Heads, hint_tests, hint, items, expression}

-- the first number is not below a bound, and each other is above the one before it
abbrev pub RisesFrom : ℕ → List ℕ → Type 0
RisesFrom n [] = Unit {0}
RisesFrom n (x ∷ xs) = (n ≤ x) × RisesFrom (suc x) xs

-- The indices of hints rise strictly.
abbrev pub HintsRise : Type 0 → Type 0
HintsRise I = (n : ℕ) (xs : List (Option ℕ × I)) → RisesFrom n (map (λ h. h.index) (hints_from n xs))

module _ {N P : Type 0} where
  -- an end of the tokens, or a parenthesis that closes
  abbrev pub Ends : List (SignificantToken N P) → Type 0
  Ends rest = at (NotEnd ∷ []) rest ≡ false

  -- a syntax, of which each value has the very tokens that spell it
  abbrev pub kept : {A : Type 0} → Syntax N P A → Syntax N P (A × List (SignificantToken N P))
  kept g = record {
    spells = λ x ts. g.spells x.0 ts × (x.1 ≡ ts);
    twins = λ x ts us. g.twins x.0 ts us × (x.1 ≡ ts) × (x.1 ≡ us);
    reads = λ ts. g.reads ts >>= λ x. Some ((x.0, take (length ts - length x.1) ts), x.1);
    starts = g.starts;
    empty = g.empty;
    stops = g.stops;
  }

module _ {N P I : Type 0} where
  abbrev pub kept_heads : Heads I → Heads (I × List (SignificantToken N P))
  kept_heads heads = record { words = heads.words; but = heads.but; stops = heads.stops; kind = λ x. heads.kind x.0; own = λ x. heads.own x.0 }

  -- the words `else` and `end` for what groups make
  abbrev pub kept_made : Made P I → Made P (I × List (SignificantToken N P))
  kept_made m = record { else_at = λ p. (m.else_at p, Word (codes "else") p ∷ []); end_at = λ p. (m.end_at p, Word (codes "end") p ∷ []) }

  abbrev pub without_tokens : Option ℕ × (I × List (SignificantToken N P)) → Option ℕ × I
  without_tokens x = (x.0, x.1.0)

  -- Instructions by themselves with their very tokens, each behind its hint if it has one.
  abbrev pub WrittenFlat : List (Option ℕ × (I × List (SignificantToken N P))) → List (SignificantToken N P) → Type 0
  WrittenFlat [] us = us ≡ []
  WrittenFlat (x ∷ xs) us = (h rest : List (SignificantToken N P)) × (us ≡ (h ++ x.1.1) ++ rest) × (maybe hint_tests hint).spells x.0 h × WrittenFlat xs rest

module _ {N P I : Type 0} (ins : Syntax N P I) (heads : Heads I) where
  -- Tokens spell one list of items, up to one place.
  abbrev pub OneReading : Type 0
  OneReading = (x y : Items P I) (front rest back tail : List (SignificantToken N P)) → front ++ rest ≡ back ++ tail → Ends rest → Ends tail → (items ins heads).spells x front → (items ins heads).spells y back → (x ≡ y) × (rest ≡ tail)

  -- Tokens that spell items give each instruction tokens of its own. Items and instructions written flat, with these very
  -- tokens and with a word for each `else` and `end`, spell one expression; and they can be written so.
  abbrev pub Folding : Made P I → Type 0
  Folding m = (x : Items P I) (ts : List (SignificantToken N P)) → (items ins heads).spells x ts →
      (y : Items P (I × List (SignificantToken N P)))
      × (items (kept ins) (kept_heads heads)).spells y ts
      × (map without_tokens (unfolded (kept_made m) y) ≡ unfolded m x)
      × ((us : List (SignificantToken N P)) × WrittenFlat (unfolded (kept_made m) y) us)
      × ((us : List (SignificantToken N P)) → WrittenFlat (unfolded (kept_made m) y) us → (expression ins heads m).spells (expression_of (unfolded m x)) ts × (expression ins heads m).spells (expression_of (unfolded m x)) us)
