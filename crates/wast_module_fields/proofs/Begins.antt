-- Where productions begin of which one spelling is given.
use Rattle.std.proofs.Common.{◌≡◌, ℕ, List, [], ◌∷◌, ◌++◌, Some, true, ap, ◌∙◌, subst, ◌&&◌, cond, false, inl, inr}
use Rattle.std.proofs.lemmas.Bool.{cases_Bool, and_parts}
use Rattle.wast_parser.specs.Tokens.{SignificantToken, Open, Word}
use Rattle.wast_parser.specs.Look.{Test, Look, look, seen_as, AWord, fits, ask, apart, faults, same, same_shape, this_group, any_fits}
use Rattle.wast_parser.specs.Spelling.{same_text}
use Rattle.wast_parser.specs.Lawful.{Lawful, Leads}
use Rattle.wast_parser.specs.Grammar.{Syntax}
use Rattle.wast_grammar.proofs.Looks.{answered, same_is, shape_is, alike, absurd_of}
use Rattle.wast_grammar.proofs.LeadLaws.{spelled_seen}

-- what looks as a group of a word begins with it
worded : (w : List ℕ) (x : Look) → fits (this_group w) x ≡ true → seen_as true AWord w ≡ x
worded w x h =
    let deep = and_parts (same true x.deep) (same_shape AWord x.shape && same_text w x.text) h in
    let text = and_parts (same_shape AWord x.shape) (same_text w x.text) deep.1 in
    ap (λ d. seen_as d AWord w) (same_is true x.deep deep.0) ∙ ap (λ s. seen_as x.deep s w) (shape_is AWord x.shape text.0) ∙ ap (λ t. seen_as x.deep x.shape t) (alike w x.text text.1)

one_test : (t : Test) (x : Look) → any_fits (t ∷ []) x ≡ true → fits t x ≡ true
one_test t x h = elim (cases_Bool (fits t x)) [
  | inl y ↦ y
  | inr n ↦ absurd_of (any_fits (t ∷ []) x) h (ap (λ b. cond b true false) n)
]

module _ {N P A : Type 0} (g : Syntax N P A) (lg : Lawful g) (w : List ℕ) where
  -- a group of a word, of which one spelling is given
  pub group_begins : g.starts ≡ this_group w ∷ [] → (a : A) (p q : P) (us : List (SignificantToken N P)) → g.spells a (Open p ∷ Word w q ∷ us) → Leads g.spells (this_group w ∷ [])
  group_begins e a p q us s = record {
    seen = λ b t ts rest r. subst (λ v. ask v (t ∷ ts ++ rest) ≡ Some true) e (spelled_seen g lg (ap (λ v. apart (faults v) v) e) b t ts rest r);
    only = λ ts h. (a, Open p, Word w q ∷ us, [], s, worded w (look ts) (one_test (this_group w) (look ts) (answered (this_group w ∷ []) ts true h).1));
  }
