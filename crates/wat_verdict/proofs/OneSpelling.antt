-- A text spells one tree at most, that of its one list of significant tokens.
use Rattle.std.proofs.Common.{ℕ, ◌≡◌, ◌≢◌, inl, inr, false, List, [], ◌∷◌, ◌++◌, Option, Some, None, map, drop, refl, sym, ap, subst, ◌∙◌}
use Rattle.std.specs.Prelude.{is_some}
use Rattle.wast_grammar.specs.Tokens.{Name}
use Rattle.wast_lexer.specs.Lexeme.{Lexeme, lexeme_of}
use Rattle.wast_lexer.specs.Tiling.{Tiles}
use Rattle.wast_lexer.specs.Table.{IsTable}
use Rattle.wast_lexer.specs.declared.token.Token.{Token}
use Rattle.wast_lexer.specs.declared.fault.LexFault.{LexFault}
use Rattle.wast_lexer.specs.declared.fault.LexFault.TheVariants.{Lex, Memory}
use Rattle.wast_lexer.proofs.TilingLaws.{tile_once}
use Rattle.wast_parser.specs.Look.{NotEnd, at}
use Rattle.wast_parser.specs.Lawful.{Lawful}
use Rattle.wast_parser.specs.Significant.{significant}
use Rattle.wast_parser.specs.State.{Source, State, ahead, knowing}
use Rattle.wast_parser.specs.Reading.{ReadsAll, ReadsNotAll}
use Rattle.wast_grammar.proofs.GrammarLaws.{unread, left_over}
use Rattle.wast_grammar.proofs.Readings.{read_all, one_reading}
use Rattle.wast_grammar.proofs.SignificantLaws.{significant_law}
use Rattle.wast_field_syntax.specs.FieldTree.{Module}
use Rattle.wast_core.specs.ModuleSyntax.{wat}
use Rattle.wast_core.proofs.ModuleLaws.{wat_laws}
use Rattle.wat_verdict.specs.Registered.{registered}
use Rattle.wat_verdict.specs.Spells.{alone, Spells}
use Rattle.wat_verdict.proofs.Stops.{table_stops}
use Rattle.wat_verdict.proofs.Alone.{alone_laws, ended_so, nothing_behind, nothing_either}

pub text_laws : Lawful (alone (wat {N = Name} {P = ℕ}))
text_laws = alone_laws wat wat_laws refl

pub one_spelling : (text : List ℕ) (a b : Module Name ℕ) → Spells text a → Spells text b → a ≡ b
one_spelling text a b x y = one_reading wat wat_laws refl false registered text x.tokens y.tokens a b x.significant y.significant x.spelled y.spelled

-- where a parser ends
module _ (end : State) (plain : end.names ≡ []) where
  abbrev left_at : List Lexeme
  left_at = map (lexeme_of end.source.text) (drop end.at end.source.tokens)

  ends : at (NotEnd ∷ []) (ahead (knowing registered end)) ≡ false → ahead end ≡ [] → ahead (knowing registered end) ≡ []
  ends n none =
      let b = is_some end.source.fault in
      subst (λ ns. significant (registered ++ ns) b left_at ≡ []) (sym plain) (nothing_behind registered b left_at
      (subst (λ ns. at (NotEnd ∷ []) (significant (registered ++ ns) b left_at) ≡ false) plain n)
      (subst (λ ns. significant ns b left_at ≡ []) plain none))

  goes_on : ahead end ≢ [] → ahead (knowing registered end) ≢ []
  goes_on more none =
      let b = is_some end.source.fault in
      more (subst (λ ns. significant ns b left_at ≡ []) (sym plain) (nothing_either registered b left_at (subst (λ ns. significant (registered ++ ns) b left_at ≡ []) plain none)))

module _ (text : List ℕ) (tokens : List Token) where
  abbrev lexemes : List Lexeme
  lexemes = map (lexeme_of text) tokens

  no_fault : (f : Option LexFault) → IsTable false text tokens f → is_some f ≡ false → Tiles false false 0 text lexemes
  no_fault None is e = is
  no_fault (Some f) is e = absurd (cc)

  -- what is read of a table's tokens, all of them, its text spells
  spelled_by : (f : Option LexFault) → IsTable false text tokens f → (tree : Module Name ℕ) → (alone wat).reads (significant registered (is_some f) lexemes) ≡ Some (tree, []) → Spells text tree
  spelled_by f is tree read =
      let r = read_all (alone wat) text_laws registered (is_some f) lexemes tree read in
      record { tokens = significant registered (is_some f) lexemes; significant = (lexemes, no_fault f is r.0, r.1); spelled = r.2 }

  -- where they spell no tree, the text spells none
  spelled_by_none : (f : Option LexFault) → IsTable false text tokens f → ((tree : Module Name ℕ) → ¬ (wat.spells tree (significant registered (is_some f) lexemes))) → (tree : Module Name ℕ) → ¬ (Spells text tree)
  spelled_by_none None is none tree s =
      let same = tile_once false false 0 text s.significant.0 lexemes s.significant.1 is in
      let tokens = sym ((significant_law registered s.significant.0 s.tokens).0 s.significant.2).0 ∙ ap (significant registered false) same in
      none tree (subst (λ ts. wat.spells tree ts) tokens s.spelled)
  spelled_by_none (Some (Lex span error)) is none tree s = table_stops false text tokens (Some (Lex span error)) span error is refl s.significant.0 s.significant.1
  spelled_by_none (Some Memory) is none tree s = absurd is.2

-- what reading a source answers
module _ (source : Source) (is : IsTable false source.text source.tokens source.fault) where
  pub all_spelled : (tree : Module Name ℕ) → ReadsAll (alone wat).reads registered source tree → Spells source.text tree
  all_spelled tree r =
      let rest = ends r.0 r.1.names (ended_so wat (significant registered (is_some source.fault) (map (lexeme_of source.text) source.tokens)) _ r.2) r.3 in
      spelled_by source.text source.tokens source.fault is tree (r.2 ∙ ap (λ ts. Some (tree, ts)) rest)

  pub none_spelled : ReadsNotAll (alone wat).reads registered source → (tree : Module Name ℕ) → ¬ (Spells source.text tree)
  none_spelled r = spelled_by_none source.text source.tokens source.fault is (elim r [
    | inl none ↦ unread (alone wat) text_laws refl _ none
    | inr x ↦ (λ a s. goes_on x.1 x.2.names x.4 (left_over (alone wat) text_laws refl _ _ x.0 x.3 a s))
  ])
