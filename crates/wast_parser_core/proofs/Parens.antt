-- The laws of parentheses alone.
use Rattle.std.proofs.Common.{◌≡◌, true, false, cond, List, [], ◌∷◌, Some, refl, ap}
use Rattle.wast_grammar.specs.Tokens.{SignificantToken, Open, Close, Id, Word, Mark, Integer, Float, Text, Reserved, Broken}
use Rattle.wast_grammar.specs.Spelling.{that_open, that_close}
use Rattle.wast_grammar.specs.Look.{Opening, On, AClose, Any, at}
use Rattle.wast_grammar.specs.Grammar.{token}
use Rattle.wast_grammar.proofs.Looks.{first_deep}
use Rattle.wast_grammar.proofs.TokenLaws.{Lawful, token_laws}

module _ {N P : Type 0} where
  open_at : (t : SignificantToken N P) (a : P) (rest : List (SignificantToken N P)) → that_open t ≡ Some a → at (Opening ∷ []) (t ∷ rest) ≡ true
  open_at (Open p) a rest e = ap (λ b. cond b true false) (first_deep true rest)
  open_at (Close p) a rest e = absurd (cc)
  open_at (Id n p) a rest e = absurd (cc)
  open_at (Word w p) a rest e = absurd (cc)
  open_at (Mark w p) a rest e = absurd (cc)
  open_at (Integer n w p) a rest e = absurd (cc)
  open_at (Float w p) a rest e = absurd (cc)
  open_at (Text s p) a rest e = absurd (cc)
  open_at (Reserved w p) a rest e = absurd (cc)
  open_at Broken a rest e = absurd (cc)

  pub open_laws : Lawful (token (that_open {N = N} {P = P}) (Opening ∷ []))
  open_laws = token_laws that_open (Opening ∷ []) open_at refl

  close_at : (t : SignificantToken N P) (a : P) (rest : List (SignificantToken N P)) → that_close t ≡ Some a → at (On false AClose Any ∷ []) (t ∷ rest) ≡ true
  close_at (Close p) a rest e = refl
  close_at (Open p) a rest e = absurd (cc)
  close_at (Id n p) a rest e = absurd (cc)
  close_at (Word w p) a rest e = absurd (cc)
  close_at (Mark w p) a rest e = absurd (cc)
  close_at (Integer n w p) a rest e = absurd (cc)
  close_at (Float w p) a rest e = absurd (cc)
  close_at (Text s p) a rest e = absurd (cc)
  close_at (Reserved w p) a rest e = absurd (cc)
  close_at Broken a rest e = absurd (cc)

  pub close_laws : Lawful (token (that_close {N = N} {P = P}) (On false AClose Any ∷ []))
  close_laws = token_laws that_close (On false AClose Any ∷ []) close_at refl
