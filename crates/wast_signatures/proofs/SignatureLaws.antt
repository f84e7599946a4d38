-- The laws of the syntax of signatures, type uses and fields of structures: each mirrors its production.
use Rattle.std.proofs.Common.{ℕ, List, refl}
use Rattle.std.specs.Prelude.{codes}
use Rattle.wast_value_types.specs.Look.{id_starts}
use Rattle.wast_value_types.proofs.GrammarLaws.{Lawful, seen_laws, seq_laws, maybe_laws, many_laws, either_laws, paren_laws, group_laws}
use Rattle.wast_value_types.proofs.IdentifierLaws.{identifier_laws, index_laws, name_annotation_laws, maybe_name_laws}
use Rattle.wast_value_types.proofs.ValueLaws.{val_type_laws, field_type_laws}
use Rattle.wast_value_types.specs.ValueSyntax.{field_starts}
use Rattle.wast_signatures.specs.TypeSyntax.{given_starts, given_name, val_types, named_locals, locals, result, sig_groups, param, bare_param, sig, bare_sig, named_fields, index_of, type_use, bare_use}

module _ {N P : Type 0} where
  pub given_name_laws : Lawful (given_name {N = N} {P = P})
  given_name_laws = paren_laws _ name_annotation_laws refl refl

  pub val_types_laws : Lawful (val_types {N = N} {P = P})
  val_types_laws = many_laws _ _ val_type_laws refl refl refl refl refl

  pub named_locals_laws : Lawful (named_locals {N = N} {P = P})
  named_locals_laws =
      either_laws id_starts _ _ (seen_laws _ _ (seq_laws _ _ identifier_laws (seq_laws _ _ maybe_name_laws val_type_laws refl) refl))
      (either_laws given_starts _ _ (seen_laws _ _ (seq_laws _ _ given_name_laws val_type_laws refl)) (seen_laws _ _ val_types_laws) refl refl refl refl) refl refl refl refl

  pub locals_laws : (w : List ℕ) → Lawful (locals {N = N} {P = P} w)
  locals_laws w = group_laws w _ named_locals_laws refl

  pub result_laws : Lawful (result {N = N} {P = P})
  result_laws = group_laws (codes "result") _ val_types_laws refl

  pub bare_param_laws : Lawful (bare_param {N = N} {P = P})
  bare_param_laws = group_laws (codes "param") _ val_types_laws refl

  pub sig_groups_laws : Lawful (sig_groups {N = N} {P = P} param)
  sig_groups_laws = seq_laws _ _ (many_laws _ _ (locals_laws (codes "param")) refl refl refl refl refl) (many_laws _ _ result_laws refl refl refl refl refl) refl

  pub bare_groups_laws : Lawful (sig_groups {N = N} {P = P} bare_param)
  bare_groups_laws = seq_laws _ _ (many_laws _ _ bare_param_laws refl refl refl refl refl) (many_laws _ _ result_laws refl refl refl refl refl) refl

  pub sig_laws : Lawful (sig {N = N} {P = P})
  sig_laws = seen_laws _ _ sig_groups_laws

  pub bare_sig_laws : Lawful (bare_sig {N = N} {P = P})
  bare_sig_laws = seen_laws _ _ bare_groups_laws

  pub named_fields_laws : Lawful (named_fields {N = N} {P = P})
  named_fields_laws = either_laws id_starts _ _ (seen_laws _ _ (seq_laws _ _ identifier_laws field_type_laws refl)) (seen_laws _ _ (many_laws field_starts _ field_type_laws refl refl refl refl refl)) refl refl refl refl

  pub index_of_laws : (w : List ℕ) → Lawful (index_of {N = N} {P = P} w)
  index_of_laws w = maybe_laws _ _ (group_laws w _ index_laws refl) refl refl refl

  pub type_use_laws : Lawful (type_use {N = N} {P = P})
  type_use_laws = seen_laws _ _ (seq_laws _ _ (index_of_laws (codes "type")) (seen_laws _ _ sig_groups_laws) refl)

  pub bare_use_laws : Lawful (bare_use {N = N} {P = P})
  bare_use_laws = seen_laws _ _ (seq_laws _ _ (index_of_laws (codes "type")) (seen_laws _ _ bare_groups_laws) refl)
