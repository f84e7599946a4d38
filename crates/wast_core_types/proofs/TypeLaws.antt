-- The laws of the syntax of composite types and definitions: each mirrors its production.
use Rattle.std.proofs.Common.{suc, false, [], ◌∷◌, refl}
use Rattle.std.specs.Prelude.{codes}
use Rattle.wast_parser.specs.Look.{this_group, id_starts, index_starts, type_starts}
use Rattle.wast_parser.specs.Grammar.{wide, seen, group}
use Rattle.wast_parser.proofs.GrammarLaws.{Lawful, word_laws, seen_laws, seq_laws, maybe_laws, many_laws, either_laws, paren_laws, group_laws, wide_laws}
use Rattle.wast_parser.proofs.RecursionLaws.{Steps, fix_laws, under_self, under_seen, under_group, under_either}
use Rattle.wast_parser.proofs.IdentifierLaws.{identifier_laws, index_laws, maybe_name_laws}
use Rattle.wast_value_types.proofs.WordLaws.{optional_laws}
use Rattle.wast_value_types.proofs.ValueLaws.{field_type_laws}
use Rattle.wast_signatures.specs.TypeSyntax.{shared_starts, comp_starts, fields, struct_type, inner_type, as_shared, unshared, comp_step, comp_type, described, sub_type, type_def, type_body, type_item, rec_body, rec_group}
use Rattle.wast_signatures.proofs.SignatureLaws.{sig_laws, named_fields_laws, index_of_laws}

module _ {N P : Type 0} where
  pub fields_laws : Lawful (fields {N = N} {P = P})
  fields_laws = group_laws (codes "field") _ named_fields_laws refl

  pub struct_type_laws : Lawful (struct_type {N = N} {P = P})
  struct_type_laws = seen_laws _ _ (many_laws _ _ fields_laws refl refl refl refl refl)

  pub inner_type_laws : Lawful (inner_type {N = N} {P = P})
  inner_type_laws =
      either_laws (this_group (codes "func") ∷ []) _ _ (seen_laws _ _ (group_laws (codes "func") _ sig_laws refl))
      (either_laws (this_group (codes "struct") ∷ []) _ _ (seen_laws _ _ (group_laws (codes "struct") _ struct_type_laws refl))
      (either_laws (this_group (codes "array") ∷ []) _ _ (seen_laws _ _ (group_laws (codes "array") _ field_type_laws refl)) (seen_laws _ _ (group_laws (codes "cont") _ index_laws refl)) refl refl refl refl) refl refl refl refl) refl refl refl refl

  pub comp_steps : Steps {N = N} {P = P} comp_starts false [] comp_step
  comp_steps = record {
    keeps = λ g lg. wide_laws (comp_step (wide comp_starts false [] g)) comp_starts false [] (either_laws shared_starts _ _ (seen_laws _ _ (group_laws (codes "shared") _ lg refl)) (seen_laws _ _ inner_type_laws) refl refl refl refl) (λ x y. y) (λ e. e) (λ x y. y);
    guards = λ n g h u. (
        let v = under_seen (suc n) as_shared _ _ (under_group n (codes "shared") (wide comp_starts false [] g) (wide comp_starts false [] h) u) in
        under_either (suc n) shared_starts (seen as_shared (group (codes "shared") (wide comp_starts false [] g))) (seen as_shared (group (codes "shared") (wide comp_starts false [] h))) (seen unshared inner_type) (seen unshared inner_type) v (under_self (suc n) (seen unshared inner_type)));
  }

  pub comp_type_laws : Lawful (comp_type {N = N} {P = P})
  comp_type_laws = fix_laws comp_starts false [] comp_step comp_steps

  pub described_laws : Lawful (described {N = N} {P = P})
  described_laws = seq_laws _ _ (index_of_laws (codes "describes")) (seq_laws _ _ (index_of_laws (codes "descriptor")) comp_type_laws refl) refl

  pub sub_type_laws : Lawful (sub_type {N = N} {P = P})
  sub_type_laws = seen_laws _ _ (seq_laws _ _ (optional_laws (codes "final")) (seq_laws _ _ (maybe_laws index_starts _ index_laws refl refl refl) described_laws refl) refl)

  pub type_def_laws : Lawful (type_def {N = N} {P = P})
  type_def_laws = either_laws (this_group (codes "sub") ∷ []) _ _ (group_laws (codes "sub") _ sub_type_laws refl) (seen_laws _ _ described_laws) refl refl refl refl

  pub type_body_laws : Lawful (type_body {N = N} {P = P})
  type_body_laws = seen_laws _ _ (seq_laws _ _ (word_laws (codes "type")) (seq_laws _ _ (maybe_laws id_starts _ identifier_laws refl refl refl) (seq_laws _ _ maybe_name_laws type_def_laws refl) refl) refl)

  pub type_item_laws : Lawful (type_item {N = N} {P = P})
  type_item_laws = paren_laws type_body type_body_laws refl refl

  pub rec_body_laws : Lawful (rec_body {N = N} {P = P})
  rec_body_laws = seen_laws _ _ (seq_laws _ _ (word_laws (codes "rec")) (many_laws type_starts _ type_item_laws refl refl refl refl refl) refl)

  pub rec_group_laws : Lawful (rec_group {N = N} {P = P})
  rec_group_laws = paren_laws rec_body rec_body_laws refl refl
