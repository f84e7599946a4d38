-- What the laws say of a production: that its reader answers what is spelled, and that a look tells where one begins.
use Rattle.std.specs.Prelude.{◌≡◌, ◌⊎◌, ◌<◌, true, false, List, [], ◌∷◌, ◌++◌, length, Some}
use Rattle.wast_grammar.specs.Tokens.{SignificantToken, is_whole}
use Rattle.wast_grammar.specs.Spelling.{Spells}
use Rattle.wast_grammar.specs.Look.{Test, look, at, ask}
use Rattle.wast_grammar.specs.Grammar.{Reader, Syntax}

-- the tokens are the taken ones, which spell the value, and the rest
pub record Takes {N P A : Type 0} (g : Syntax N P A) (a : A) (ts rest : List (SignificantToken N P)) : Type 0 where
  pub taken : List (SignificantToken N P)
  pub parts : ts ≡ taken ++ rest
  pub spelled : g.spells a taken

pub record Lawful {N P A : Type 0} (g : Syntax N P A) : Type 0 where
  -- what is read is spelled
  pub sound : (ts : List (SignificantToken N P)) (x : A × List (SignificantToken N P)) → g.reads ts ≡ Some x → Takes g x.0 ts x.1
  -- what is spelled is read, where what follows may follow
  pub complete : (a : A) (us rest : List (SignificantToken N P)) → g.spells a us → at g.stops rest ≡ false → g.reads (us ++ rest) ≡ Some (a, rest)
  -- what is spelled begins so, or it is nothing
  pub leads : (a : A) (us rest : List (SignificantToken N P)) → g.spells a us → (at g.starts (us ++ rest) ≡ true) ⊎ ((g.empty ≡ true) × (us ≡ []))
  -- nothing broken is spelled
  pub whole : (a : A) (us : List (SignificantToken N P)) → g.spells a us → is_whole us ≡ true

-- As Lawful, where own a is what would go on with a, beyond the stops of all: it is never left, and may not follow.
pub record LawfulBut {N P A : Type 0} (g : Syntax N P A) (own : A → List Test) : Type 0 where
  pub sound : (ts : List (SignificantToken N P)) (x : A × List (SignificantToken N P)) → g.reads ts ≡ Some x → Takes g x.0 ts x.1
  pub settled : (ts : List (SignificantToken N P)) (x : A × List (SignificantToken N P)) → g.reads ts ≡ Some x → at (own x.0) x.1 ≡ false
  pub complete : (a : A) (us rest : List (SignificantToken N P)) → g.spells a us → at g.stops rest ≡ false → at (own a) rest ≡ false → g.reads (us ++ rest) ≡ Some (a, rest)
  pub leads : (a : A) (us rest : List (SignificantToken N P)) → g.spells a us → (at g.starts (us ++ rest) ≡ true) ⊎ ((g.empty ≡ true) × (us ≡ []))
  pub whole : (a : A) (us : List (SignificantToken N P)) → g.spells a us → is_whole us ≡ true

-- What is read does not go on so.
pub record Settles {N P A : Type 0} (g : Syntax N P A) (tests : List Test) : Type 0 where
  pub settled : (ts : List (SignificantToken N P)) (x : A × List (SignificantToken N P)) → g.reads ts ≡ Some x → at tests x.1 ≡ false

-- Looking so tells where one begins, by the first token, and by the second where that stands behind a parenthesis.
pub record Leads {N P A : Type 0} (spells : Spells N P A) (tests : List Test) : Type 0 where
  -- what is spelled and is not nothing is seen, whatever follows it
  pub seen : (a : A) (t : SignificantToken N P) (ts rest : List (SignificantToken N P)) → spells a (t ∷ ts) → ask tests (t ∷ ts ++ rest) ≡ Some true
  -- what is seen looks as one that is spelled, with something behind it
  pub only : (ts : List (SignificantToken N P)) → ask tests ts ≡ Some true →
      (a : A) × (t : SignificantToken N P) × (us rest : List (SignificantToken N P)) × spells a (t ∷ us) × (look (t ∷ us ++ rest) ≡ look ts)

-- Each reading takes a token.
abbrev pub Shrinks : {N P A : Type 0} → Reader N P A → Type 0
Shrinks {N} {P} {A} r = (ts : List (SignificantToken N P)) (x : A × List (SignificantToken N P)) → r ts ≡ Some x → length x.1 < length ts

-- Of two token lists that differ in marked parts alone each spells the value, and what spells it goes with itself.
pub record Paired {N P A : Type 0} (g : Syntax N P A) : Type 0 where
  pub first : (a : A) (ts us : List (SignificantToken N P)) → g.twins a ts us → g.spells a ts
  pub second : (a : A) (ts us : List (SignificantToken N P)) → g.twins a ts us → g.spells a us
  pub alone : (a : A) (ts : List (SignificantToken N P)) → g.spells a ts → g.twins a ts ts
