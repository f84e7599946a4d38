-- What is read up to an end is a whole text.
use Rattle.std.proofs.Common.{◌≡◌, ◌≢◌, inl, inr, ℕ, Bool, true, false, Option, Some, None, List, [], ◌∷◌, ◌++◌, refl, sym, ap, ◌∙◌, append-nil}
use Rattle.std.specs.Prelude.{◌&&◌, if◌then◌else◌}
use Rattle.std.proofs.lemmas.Option.{same_Some}
use Rattle.wast_lexer.specs.declared.token.TokenKind.{TokenKind}
use Rattle.wast_lexer.specs.declared.token.TokenKind.TheVariants as kinds
use Rattle.wast_lexer.specs.Lexeme.{Lexeme}
use Rattle.wast_lexer.specs.Tiling.{is_annotation}
use Rattle.wast_parser.specs.Tokens.{SignificantToken, Open, Close, Id, Word, Mark, Integer, Float, Text, Reserved, Broken}
use Rattle.wast_parser.specs.Look.{NotEnd, at, any_end}
use Rattle.wast_parser.specs.Grammar.{Syntax}
use Rattle.wast_parser.specs.Spelling.{◌>>=◌}
use Rattle.wast_parser.specs.Lawful.{Lawful}
use Rattle.wast_parser.specs.Significant.{TextToken, token_of, is_lparen, is_unknown, begins_unknown, Dropped, Shows, IsShown, at_end, significant}
use Rattle.wast_grammar.specs.Significant.Dropped.{Nothing, Blank, Group}
use Rattle.wast_grammar.proofs.BehindLaws.{opens_on, none_at}
use Rattle.wast_grammar.proofs.SignificantLaws.{dropped_passed, shows_first, shown_law}
use Rattle.wat_verdict.specs.Spells.{alone}

module _ {N P A : Type 0} where
  -- what is read with an end behind it is read
  unended : (o : Option (A × List (SignificantToken N P))) (x : A × List (SignificantToken N P)) → (o >>= λ y. if at (NotEnd ∷ []) y.1 then None else Some y) ≡ Some x → (o ≡ Some x) × (at (NotEnd ∷ []) x.1 ≡ false)
  unended None x e = absurd (cc)
  unended (Some y) x e = tested (at (NotEnd ∷ []) y.1) refl e
    where
      tested : (b : Bool) → at (NotEnd ∷ []) y.1 ≡ b → (if b then None else Some y) ≡ Some x → (Some y ≡ Some x) × (at (NotEnd ∷ []) x.1 ≡ false)
      tested true h e = absurd (cc)
      tested false h e = (e, ap (λ z. at (NotEnd ∷ []) z.1) (sym (same_Some y x e)) ∙ h)

  pub ended_so : (g : Syntax N P A) (ts : List (SignificantToken N P)) (x : A × List (SignificantToken N P)) → (alone g).reads ts ≡ Some x → at (NotEnd ∷ []) x.1 ≡ false
  ended_so g ts x e = (unended (g.reads ts) x e).1

module _ {N P A : Type 0} (g : Syntax N P A) (lg : Lawful g) (open_ended : any_end g.stops ≡ false) where
  pub alone_laws : Lawful (alone g)
  alone_laws = record {
    sound = λ ts x e. let r = lg.sound ts x (unended (g.reads ts) x e).0 in record { taken = r.taken; parts = r.parts; spelled = r.spelled };
    complete = λ a us rest s n. ap (λ o. o >>= λ y. if at (NotEnd ∷ []) y.1 then None else Some y) (lg.complete a us rest s (none_at g.stops rest open_ended n)) ∙ ap (λ b. if b then None else Some (a, rest)) n;
    leads = lg.leads;
    whole = lg.whole;
  }

-- WHERE FEWER NAMES ARE REGISTERED
unknown_wider : (names : List (List ℕ)) (a : Lexeme) → is_unknown names a ≡ true → is_unknown [] a ≡ true
unknown_wider names a h = first (is_annotation a.kind) _ h
  where
    first : (b c : Bool) → b && c ≡ true → b && true ≡ true
    first true c h = refl
    first false c h = h

dropped_wider : (names : List (List ℕ)) (ls : List Lexeme) → Dropped names ls → Dropped [] ls
dropped_wider names _ Nothing = Nothing
dropped_wider names _ (Blank h d) = Blank h (dropped_wider names _ d)
dropped_wider names _ (Group {o} {a} {ls = more} inner c opens unknown balanced closes d) = Group inner c opens (unknown_wider names a unknown) balanced closes (dropped_wider names more d)

no_opening : (k : TokenKind) (w : List ℕ) (q p : ℕ) → token_of k w q ≡ Close p ∷ [] → is_lparen k ≡ false
no_opening kinds.LParen w q p e = absurd (cc)
no_opening _ w q p e = refl

closes : (names : List (List ℕ)) (broken : Bool) (ls : List Lexeme) (p : ℕ) (ts : List TextToken) → IsShown names broken ls (Close p ∷ ts) → significant [] broken ls ≢ []
closes names broken ls p ts s none = elim s [
  | inl b ↦ (let e = b.0 in absurd (cc))
  | inr x ↦ (
      let k = no_opening x.0.kind x.0.text x.0.place p x.3 in
      let shows : Shows [] ls x.0 x.1 = record { gap = x.2.gap; dropped = dropped_wider names x.2.gap x.2.dropped; split = x.2.split; seen = x.2.seen; kept = ap (λ b. b && begins_unknown [] x.1) k } in
      let e = sym (shows_first [] broken ls x.0 x.1 shows ∙ ap (λ v. v ++ significant [] broken x.1) x.3) ∙ none in
      absurd (cc))
]

-- an end stands there, and nothing where no names are registered: nothing stands there
pub nothing_behind : (names : List (List ℕ)) (broken : Bool) (ls : List Lexeme) → at (NotEnd ∷ []) (significant names broken ls) ≡ false → significant [] broken ls ≡ [] → significant names broken ls ≡ []
nothing_behind names broken ls n none = by_first (significant names broken ls) n ((shown_law names broken ls (significant names broken ls)).1 refl)
  where
    by_first : (ts : List TextToken) → at (NotEnd ∷ []) ts ≡ false → IsShown names broken ls ts → ts ≡ []
    by_first [] n s = refl
    by_first (Close p ∷ ts) n s = absurd (closes names broken ls p ts s none)
    by_first (Open p ∷ ts) n s = absurd (let e = sym (opens_on p ts) ∙ n in cc)
    by_first (Id m p ∷ ts) n s = absurd (cc)
    by_first (Word w p ∷ ts) n s = absurd (cc)
    by_first (Mark w p ∷ ts) n s = absurd (cc)
    by_first (Integer m w p ∷ ts) n s = absurd (cc)
    by_first (Float w p ∷ ts) n s = absurd (cc)
    by_first (Text w p ∷ ts) n s = absurd (cc)
    by_first (Reserved w p ∷ ts) n s = absurd (cc)
    by_first (Broken ∷ ts) n s = absurd (cc)

-- nothing stands there, so nothing does where no names are registered
pub nothing_either : (names : List (List ℕ)) (broken : Bool) (ls : List Lexeme) → significant names broken ls ≡ [] → significant [] broken ls ≡ []
nothing_either names broken ls e =
    let s = (shown_law names broken ls []).1 e in
    ap (significant [] broken) (sym (append-nil ls)) ∙ dropped_passed [] broken ls (dropped_wider names ls s.0) [] ∙ ap at_end s.1
