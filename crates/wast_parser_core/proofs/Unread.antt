-- What does not begin is not read.
use Rattle.std.proofs.Common.{◌≡◌, true, false, List, Option, Some, None, refl}
use Rattle.wast_grammar.specs.Tokens.{SignificantToken}
use Rattle.wast_grammar.specs.Look.{ask, apart, faults}
use Rattle.wast_grammar.specs.Grammar.{Syntax}
use Rattle.wast_grammar.proofs.GrammarLaws.{Lawful, ask_begun}

module _ {N P A : Type 0} (g : Syntax N P A) (lg : Lawful g) (full : g.empty ≡ false) (sure : apart (faults g.starts) g.starts ≡ true) where
  begins : (ts : List (SignificantToken N P)) (x : A × List (SignificantToken N P)) → g.reads ts ≡ Some x → ask g.starts ts ≡ Some true
  begins ts x e =
      let s = lg.sound ts x e in
      rw s.parts (ask_begun g.starts g lg refl full sure x.0 s.taken x.1 s.spelled)

  pub unread : (ts : List (SignificantToken N P)) → (ask g.starts ts ≡ Some true → ⊥) → g.reads ts ≡ None
  unread ts n =
      let none : (o : Option (A × List (SignificantToken N P))) → g.reads ts ≡ o → o ≡ None = elim [
        | None ↦ λ e. refl
        | Some x ↦ λ e. absurd (n (begins ts x e))
      ] in
      none (g.reads ts) refl
