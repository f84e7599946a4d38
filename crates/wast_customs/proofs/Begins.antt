-- Looks tell where annotations begin, and groups that a word of a set heads.
use Rattle.std.proofs.Common.{◌≡◌, false, List, [], ◌∷◌, refl, ℕ}
use Rattle.wast_parser.specs.Tokens.{SignificantToken}
use Rattle.wast_parser.specs.Lawful.{Lawful, Leads}
use Rattle.wast_parser.specs.Look.{On, This, AMark, any_end, this_annotation}
use Rattle.wast_parser.specs.Grammar.{Syntax, mark, seq, seen, paren}
use Rattle.wast_parser.proofs.GrammarLaws.{mark_laws, seen_laws, seq_laws}
use Rattle.wast_parser.proofs.LeadLaws.{mark_leads, seen_leads, next_leads, paren_leads}

module _ {N P A B : Type 0} (w : List ℕ) (f : P × A → B) (g : Syntax N P A) (lg : Lawful g) where
  -- (@name ..), of which something is spelled behind the name
  pub annotation_leads : (full : any_end (seen f (seq (mark w) g)).stops ≡ false) → (a : A) (us : List (SignificantToken N P)) → g.spells a us → Leads (paren (seen f (seq (mark w) g))).spells (this_annotation w ∷ [])
  annotation_leads ends a us s =
      let tests = On false AMark (This w) ∷ [] in
      let laws = seq_laws (mark w) g (mark_laws w) lg refl in
      paren_leads (seen f (seq (mark w) g)) (seen_laws f (seq (mark w) g) laws) tests
      (seen_leads f (seq (mark w) g).spells tests (next_leads (mark w) (λ _. g) g.starts g.empty g.stops tests laws refl (mark_leads w) refl refl (λ _. (a, us, s))))
      refl refl refl refl refl
