-- What a text spells: its significant tokens are read and spelled, and it spells one value at most.
use Rattle.std.proofs.Common.{◌≡◌, ℕ, Bool, false, List, [], Some, refl, subst}
use Rattle.wast_lexer.specs.Lexeme.{Lexeme}
use Rattle.wast_grammar.specs.Tokens.{Name}
use Rattle.wast_grammar.specs.Significant.{TextToken, IsSignificant, AreSignificant, significant}
use Rattle.wast_grammar.specs.Look.{any_end}
use Rattle.wast_grammar.specs.Grammar.{Syntax}
use Rattle.wast_grammar.proofs.GrammarLaws.{Lawful, one_value, all_spelled}
use Rattle.wast_grammar.proofs.SignificantLaws.{shown_law, whole_significant, one_list}

module _ {A : Type 0} (g : Syntax Name ℕ A) (lg : Lawful g) where
  -- Where all that a parser is shown is read, no fault stands behind it, and the text has significant tokens, which spell
  -- the value.
  pub read_all : (names : List (List ℕ)) (broken : Bool) (ls : List Lexeme) (a : A) → g.reads (significant names broken ls) ≡ Some (a, []) →
      (broken ≡ false) × IsSignificant names ls (significant names broken ls) × g.spells a (significant names broken ls)
  read_all names broken ls a e =
      let ts = significant names broken ls in
      let s = all_spelled g lg ts a e in
      let w = whole_significant names broken ls ts ((shown_law names broken ls ts).1 refl) (lg.whole a ts s) in
      (w.0, w.1, s)

  pub one_reading : any_end g.stops ≡ false → (allow : Bool) (names : List (List ℕ)) (text : List ℕ) (ts us : List TextToken) (a b : A) → AreSignificant allow names text ts → AreSignificant allow names text us → g.spells a ts → g.spells b us → a ≡ b
  one_reading n allow names text ts us a b t u s r = one_value g lg n us a b (subst (λ z. g.spells a z) (one_list allow names text ts us t u) s) r
