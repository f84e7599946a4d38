-- A production that stands in itself is read by what it is made of.
use Rattle.std.proofs.Common.{◌≡◌, suc, zero, Bool, List, [], length, Some, refl, ◌∙◌, ap, arith}
use Rattle.wast_parser.specs.Tokens.{SignificantToken}
use Rattle.wast_parser.specs.Look.{Test}
use Rattle.wast_parser.specs.Grammar.{Syntax, wide}
use Rattle.wast_parser.specs.Recursion.{deep, fix}
use Rattle.wast_parser.proofs.Looks.{same_answers}
use Rattle.wast_parser.proofs.GrammarLaws.{Lawful}
use Rattle.wast_parser.proofs.RecursionLaws.{Steps, deeper, fix_laws}

-- what spells no less reads no less
module _ {N P A : Type 0} (starts other : List Test) (empty full : Bool) (g h : Syntax N P A) (lg : Lawful (wide starts empty [] g)) (lh : Lawful (wide other full [] h)) (more : (a : A) (us : List (SignificantToken N P)) → g.spells a us → h.spells a us) where
  pub reads_more : (ts : List (SignificantToken N P)) (x : A × List (SignificantToken N P)) → g.reads ts ≡ Some x → h.reads ts ≡ Some x
  reads_more ts x e = let s = lg.sound ts x e in ap h.reads s.parts ∙ lh.complete x.0 s.taken x.1 (more x.0 s.taken s.spelled) refl

module _ {N P A : Type 0} (starts : List Test) (empty : Bool) (step : Syntax N P A → Syntax N P A) (law : Steps starts empty [] step) where
  abbrev whole : Syntax N P A
  whole = fix starts empty [] step

  unrolled : (a : A) (us : List (SignificantToken N P)) → whole.spells a us → (step (wide starts empty [] whole)).spells a us
  unrolled a us (zero, s) = absurd s
  unrolled a us (suc m, s) = (law.guards (length us) (deep starts empty [] step m) whole (record { same = λ b vs l t. (m, t) })).same a us (omega arith) s

  rolled : (a : A) (us : List (SignificantToken N P)) → (step (wide starts empty [] whole)).spells a us → whole.spells a us
  rolled a us s =
      let k = length us in
      (suc k, (law.guards k whole (deep starts empty [] step k) (record { same = λ b vs l t. (deeper starts empty [] step law k t.0).same b vs l t.1 })).same a us (omega arith) s)

  pub fix_turn : (ts : List (SignificantToken N P)) → whole.reads ts ≡ (step (wide starts empty [] whole)).reads ts
  fix_turn ts =
      let l = fix_laws starts empty [] step law in
      let k = law.keeps whole l in
      same_answers (whole.reads ts) ((step (wide starts empty [] whole)).reads ts) (reads_more starts starts empty empty whole (step (wide starts empty [] whole)) l k unrolled ts) (reads_more starts starts empty empty (step (wide starts empty [] whole)) whole k l rolled ts)
