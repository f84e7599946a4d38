-- Tokens that spell each production, and where definitions begin.
use Rattle.std.proofs.Common.{ℕ, true, false, List, [], ◌∷◌, ◌++◌, Some, None, inl, inr, refl, ap, cond, codes}
use Rattle.wast_parser.specs.Tokens.{SignificantToken, Open, Close, Word}
use Rattle.wast_parser.specs.Look.{this_word, id_starts, type_starts}
use Rattle.wast_parser.specs.Grammar.{Syntax, seq, maybe, group}
use Rattle.wast_parser.specs.Identifiers.{identifier}
use Rattle.wast_grammar.proofs.Looks.{same_self}
use Rattle.wast_parser.proofs.GrammarLaws.{Leads, seq_laws, maybe_laws}
use Rattle.wast_parser.proofs.LeadLaws.{seen_leads, headed_leads, paren_leads}
use Rattle.wast_parser.proofs.IdentifierLaws.{identifier_laws, maybe_name_laws}
use Rattle.wast_value_types.specs.ValueTree.{Packed, I8}
use Rattle.wast_value_types.specs.ValueSyntax.{as_field, field_type}
use Rattle.wast_signatures.specs.TypeTree.{FuncType}
use Rattle.wast_signatures.specs.TypeSyntax.{given_starts, given_name, sig, struct_type, inner_type, comp_type, unshared, described, as_definition, sub_type, type_def, as_type_item, type_body, type_item}
use Rattle.wast_signatures.proofs.SignatureSamples.{sig_spelled}
use Rattle.wast_core_types.proofs.TypeLaws.{type_def_laws, type_body_laws}

module _ {N P : Type 0} where
  -- some tokens spell one
  abbrev pub Spelled : {A : Type 0} → Syntax N P A → Type 0
  Spelled {A} g = (a : A) × (us : List (SignificantToken N P)) × g.spells a us

  -- a group with what is spelled
  grouped : {A : Type 0} (w : List ℕ) (g : Syntax N P A) (p : P) → Spelled g → Spelled (group w g)
  grouped w g p s =
      (s.0, Open p ∷ (Word w p ∷ s.1) ++ Close p ∷ [], (Word w p ∷ s.1, p, p, refl, ((p, s.0), refl, (Word w p ∷ [], s.1, refl, (Word w p, refl, ap (λ b. cond b (Some p) None) (same_self w)), s.2))))

  pub field_type_spelled : P → Spelled field_type
  field_type_spelled p = (as_field false (Packed I8), Word (codes "i8") p ∷ [], inr (Packed I8, refl, inl (I8, refl, (((codes "i8", I8), p), refl, (Word (codes "i8") p, refl, refl)))))

  pub struct_type_spelled : Spelled struct_type
  struct_type_spelled = ([], [], ([], refl, refl))

  inner_type_spelled : P → Spelled inner_type
  inner_type_spelled p = let s = grouped (codes "func") sig p sig_spelled in (FuncType s.0, s.1, inl (s.0, refl, s.2))

  comp_type_spelled : P → Spelled comp_type
  comp_type_spelled p = let s = inner_type_spelled p in (unshared s.0, s.1, (1, inr (s.0, refl, s.2)))

  described_spelled : P → Spelled described
  described_spelled p = let s = comp_type_spelled p in ((None, (None, s.0)), s.1, ([], s.1, refl, refl, ([], s.1, refl, refl, s.2)))

  pub sub_type_spelled : P → Spelled sub_type
  sub_type_spelled p =
      let s = described_spelled p in
      (as_definition (false, (None, s.0)), s.1, ((false, (None, s.0)), refl, ([], s.1, refl, (None, refl, refl), ([], s.1, refl, refl, s.2))))

  type_def_spelled : P → Spelled type_def
  type_def_spelled p = let s = described_spelled p in (as_definition (true, (None, s.0)), s.1, inr (s.0, refl, s.2))

  -- WHERE THEY BEGIN
  pub type_item_leads : P → Leads (type_item {N = N} {P = P}).spells type_starts
  type_item_leads p =
      let s = type_def_spelled p in
      paren_leads type_body type_body_laws (this_word (codes "type") ∷ [])
      (seen_leads as_type_item _ (this_word (codes "type") ∷ [])
      (headed_leads (codes "type") (seq (maybe id_starts identifier) (seq (maybe given_starts given_name) type_def))
      (seq_laws _ _ (maybe_laws id_starts _ identifier_laws refl refl refl) (seq_laws _ _ maybe_name_laws type_def_laws refl) refl)
      (None, (None, s.0)) s.1 ([], s.1, refl, refl, ([], s.1, refl, refl, s.2)))) refl refl refl refl refl
