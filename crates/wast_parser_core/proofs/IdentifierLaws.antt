-- Laws of identifiers, indices and the annotation that names.
use Rattle.std.proofs.Common.{refl, List, [], ◌∷◌, ℕ, Some, None, false, inr}
use Rattle.std.specs.Prelude.{◌-◌, ◌^◌, codes}
use Rattle.wast_grammar.specs.Tokens.{Id}
use Rattle.wast_grammar.specs.Lawful.{Lawful, Leads}
use Rattle.wast_grammar.specs.Look.{On, AnInteger, AnId, Any, this_word, this_group, this_annotation}
use Rattle.wast_grammar.specs.Grammar.{seen, seq, mark, word, paren, maybe}
use Rattle.wast_grammar.proofs.GrammarLaws.{seen_laws, seq_laws, either_laws, paren_laws, maybe_laws, id_laws, mark_laws, word_laws}
use Rattle.wast_grammar.proofs.LeadLaws.{id_leads, seen_leads, either_leads, headed_leads, paren_leads}
use Rattle.wast_parser_core.specs.Integers.{number_in, unsigned}
use Rattle.wast_parser_core.specs.Productions.{name}
use Rattle.wast_parser_core.specs.Identifiers.{ByNumber, ByName, identifier, index, name_annotation, item_ref}
use Rattle.wast_parser_core.proofs.IntegerLaws.{number_laws, name_laws, number_leads}

module _ {N P : Type 0} where
  pub identifier_laws : Lawful (identifier {N = N} {P = P})
  identifier_laws = id_laws

  pub index_laws : Lawful (index {N = N} {P = P})
  index_laws = either_laws (On false AnInteger Any ∷ []) (seen (λ n. ByNumber n.0 n.1) (number_in (2 ^ 32 - 1) None unsigned)) (seen ByName identifier)
      (seen_laws (λ n. ByNumber n.0 n.1) (number_in (2 ^ 32 - 1) None unsigned) (number_laws (2 ^ 32 - 1) None unsigned)) (seen_laws ByName identifier identifier_laws) refl refl refl refl

  pub name_annotation_laws : Lawful (name_annotation {N = N} {P = P})
  name_annotation_laws = seen_laws (λ x. x.1) (seq (mark (codes "name")) name) (seq_laws (mark (codes "name")) name (mark_laws (codes "name")) name_laws refl)

  pub maybe_name_laws : Lawful (maybe {N = N} {P = P} (this_annotation (codes "name") ∷ []) (paren name_annotation))
  maybe_name_laws = maybe_laws (this_annotation (codes "name") ∷ []) (paren name_annotation) (paren_laws name_annotation name_annotation_laws refl refl) refl refl refl

  pub reference_laws : (w : List ℕ) → Lawful (seq {N = N} {P = P} (word w) index)
  reference_laws w = seq_laws (word w) index (word_laws w) index_laws refl

  pub item_ref_laws : (w : List ℕ) → Lawful (item_ref {N = N} {P = P} w)
  item_ref_laws w = paren_laws (seq (word w) index) (reference_laws w) refl refl

  -- WHERE THEY BEGIN, where there is a name
  pub identifier_leads : N → Leads (identifier {N = N} {P = P}).spells (On false AnId Any ∷ [])
  identifier_leads n = id_leads n

  pub index_leads : N → Leads (index {N = N} {P = P}).spells (On false AnInteger Any ∷ On false AnId Any ∷ [])
  index_leads n = either_leads (seen (λ x. ByNumber x.0 x.1) (number_in (2 ^ 32 - 1) None unsigned)).spells (seen ByName identifier).spells (On false AnInteger Any ∷ []) (On false AnId Any ∷ [])
      (seen_leads (λ x. ByNumber x.0 x.1) (number_in (2 ^ 32 - 1) None unsigned).spells (On false AnInteger Any ∷ []) (number_leads (2 ^ 32 - 1) None unsigned))
      (seen_leads ByName identifier.spells (On false AnId Any ∷ []) (identifier_leads n)) refl refl refl

  pub reference_leads : (w : List ℕ) → N → P → Leads (seq {N = N} {P = P} (word w) index).spells (this_word w ∷ [])
  reference_leads w n p = headed_leads w index index_laws (ByName (n, p)) (Id (Some n) p ∷ []) (inr ((n, p), refl, (Id (Some n) p, refl, refl)))

  pub item_ref_leads : (w : List ℕ) → N → P → Leads (item_ref {N = N} {P = P} w).spells (this_group w ∷ [])
  item_ref_leads w n p = paren_leads (seq (word w) index) (reference_laws w) (this_word w ∷ []) (reference_leads w n p) refl refl refl refl refl
