-- Texts by hand whose identifiers differ: by a renaming, and by none.
use Rattle.std.specs.Prelude.{ℕ, List, codes}
use Rattle.wast_grammar.specs.Significant.{TextToken}
use Rattle.wast_grammar.specs.Alike.{Matched, names}
use Rattle.wat_verdict.specs.Alike.{AlikeTexts}

-- Their significant tokens agree but for identifiers, of which these can be said.
pub record AlikeWith (Holds : List TextToken → List TextToken → Type 0) (text other : List ℕ) : Type 0 where
  pub tokens : List TextToken
  pub others : List TextToken
  pub alike : AlikeTexts text other tokens others
  pub holds : Holds tokens others

pub record RenamedExamples : Type 0 where
  -- $f renamed to $g
  pub renamed : AlikeWith (λ ts us. Matched (names ts us)) (codes "(module (func $f) (export \"a\" (func $f)))") (codes "(module (func $g) (export \"a\" (func $g)))")
  -- Two names that become one, or one that becomes two, are no renaming.
  pub merged : AlikeWith (λ ts us. ¬ (Matched (names ts us))) (codes "(module (func $f) (func $g))") (codes "(module (func $f) (func $f))")
  pub parted : AlikeWith (λ ts us. ¬ (Matched (names ts us))) (codes "(module (func $f) (export \"a\" (func $f)))") (codes "(module (func $f) (export \"a\" (func $g)))")
