-- The laws of values that are written as one keyword, and of words that may stand.
use Rattle.std.proofs.Common.{List, [], ◌∷◌, refl, ℕ}
use Rattle.wast_parser.specs.Look.{this_word, this_group}
use Rattle.wast_parser.specs.Grammar.{word}
use Rattle.wast_parser.proofs.GrammarLaws.{Lawful, Leads, word_laws, among_laws, seen_laws, maybe_laws, paren_laws}
use Rattle.wast_parser.proofs.LeadLaws.{word_leads, paren_leads, seen_leads, among_leads}
use Rattle.wast_words.specs.WordSyntax.{keywords, keyword, optional, alone}

module _ {N P : Type 0} where
  pub keyword_laws : {A : Type 0} (entries : List (List ℕ × A)) → Lawful (keyword {N = N} {P = P} entries)
  keyword_laws entries = seen_laws _ _ (among_laws (λ e. e.0) entries [])

  pub optional_laws : (w : List ℕ) → Lawful (optional {N = N} {P = P} w)
  optional_laws w = seen_laws _ _ (maybe_laws _ _ (word_laws w) refl refl refl)

  pub keyword_leads : {A : Type 0} (entries : List (List ℕ × A)) → Leads (keyword {N = N} {P = P} entries).spells (keywords entries)
  keyword_leads entries = seen_leads _ _ (keywords entries) (among_leads (λ e. e.0) entries [])

  -- a word in parentheses
  pub alone_laws : (w : List ℕ) → Lawful (alone {N = N} {P = P} w)
  alone_laws w = seen_laws _ _ (paren_laws _ (word_laws w) refl refl)

  pub alone_leads : (w : List ℕ) → Leads (alone {N = N} {P = P} w).spells (this_group w ∷ [])
  alone_leads w = seen_leads _ _ (this_group w ∷ []) (paren_leads (word w) (word_laws w) (this_word w ∷ []) (word_leads w) refl refl refl refl refl)
