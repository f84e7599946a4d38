-- What reading answers is what the text spells.
use Rattle.std.proofs.Common.{◌≡◌, ℕ, true, false, List, [], ◌∷◌, Some, None, Result, Ok, Err, inl, inr, refl, ◌∙◌, ap}
use Rattle.std.specs.Prelude.{◌⊎◌, not, if◌then◌else◌, IfOk, IfErr, MatchResult}
use Rattle.wast_grammar.specs.Tokens.{Name, Open, Close, Id, Word, Mark, Integer, Float, Text, Reserved, Broken}
use Rattle.wast_grammar.proofs.BehindLaws.{opens_on}
use Rattle.wast_parser.specs.Behind.{ended}
use Rattle.wast_parser.specs.Grammar.{Reader}
use Rattle.wast_parser.specs.Look.{NotEnd, at}
use Rattle.wast_parser.specs.Spelling.{◌>>=◌}
use Rattle.wast_parser.specs.Significant.{TextToken}
use Rattle.wast_parser.specs.Problem.{Problem, is_memory}
use Rattle.wast_parser.specs.State.{Source}
use Rattle.wast_parser.specs.Reading.{out_of_memory, ends_here, Refuses, ReadsAll, ReadsNotAll}
use Rattle.wast_parser.specs.Table.{IsTable}
use Rattle.wast_core.specs.ModuleSyntax.{wat}
use Rattle.wat_verdict.specs.Spells.{alone, Spells}
use Rattle.wat_verdict.specs.Registered.{registered}
use Rattle.wat.specs.Unspelled.{IsUnspelled}
use Rattle.wat.specs.TextViews.{wat_tree}
use Rattle.wat.specs.declared.text.Wat.{Wat}
use Rattle.wat_verdict.proofs.OneSpelling.{all_spelled, none_spelled}

-- where a parser is shown no more
goes_on : (ts : List TextToken) → at (NotEnd ∷ []) ts ≡ not (ends_here ts)
goes_on [] = refl
goes_on (Close p ∷ ts) = refl
goes_on (Open p ∷ ts) = opens_on p ts
goes_on (Id m p ∷ ts) = refl
goes_on (Word w p ∷ ts) = refl
goes_on (Mark w p ∷ ts) = refl
goes_on (Integer m w p ∷ ts) = refl
goes_on (Float w p ∷ ts) = refl
goes_on (Text s p ∷ ts) = refl
goes_on (Reserved w p ∷ ts) = refl
goes_on (Broken ∷ ts) = refl

module _ {A : Type 0} (r : Reader Name ℕ A) (ts : List TextToken) where
  -- behind what is read is an end, or none
  pub read_whole : (a : A) (rest : List TextToken) → r ts ≡ Some (a, rest) → ends_here rest ≡ true → ended r ts ≡ Some (a, rest)
  read_whole a rest e n =
      ap (λ o. o >>= λ y. if at (NotEnd ∷ []) y.1 then None else Some y) e ∙ ap (λ b. if b then None else Some (a, rest)) (goes_on rest ∙ ap not n)

  pub read_more : (a : A) (rest : List TextToken) (p : Problem) → r ts ≡ Some (a, rest) → ends_here rest ≡ false → Refuses p (ended r ts)
  read_more a rest p e n =
      inr (ap (λ o. o >>= λ y. if at (NotEnd ∷ []) y.1 then None else Some y) e ∙ ap (λ b. if b then None else Some (a, rest)) (goes_on rest ∙ ap not n))

-- what the answer of reading all of a text says of it
module _ (source : Source) (is : IsTable false source.text source.tokens source.fault) where
  pub told : (answer : Result Wat Problem) → IfOk answer (λ w. ReadsAll (alone wat).reads registered source (wat_tree w)) → IfErr answer (λ e. (e ≡ out_of_memory) ⊎ ReadsNotAll (alone wat).reads registered source) → MatchResult answer (λ w. Spells source.text (wat_tree w)) (λ error. IsUnspelled source.text error)
  told (Ok w) read refused = all_spelled source is (wat_tree w) read
  told (Err e) read refused = elim refused [
    | inl m ↦ inl (ap (λ p. is_memory p.cause) m)
    | inr none ↦ inr (none_spelled source is none)
  ]
