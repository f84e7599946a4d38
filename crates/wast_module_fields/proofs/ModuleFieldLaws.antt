-- The laws of fields: each mirrors its production.
use Rattle.std.proofs.Common.{[], ◌∷◌, refl}
use Rattle.std.specs.Prelude.{codes}
use Rattle.wast_parser.specs.Look.{this_group, type_starts}
use Rattle.wast_parser.specs.Lawful.{Lawful}
use Rattle.wast_parser.proofs.GrammarLaws.{word_laws, seen_laws, seq_laws, either_laws, paren_laws}
use Rattle.wast_parser.proofs.IdentifierLaws.{index_laws}
use Rattle.wast_core_types.proofs.TypeLaws.{type_item_laws, rec_group_laws}
use Rattle.wast_exports.specs.Exports.{export_starts, import_starts}
use Rattle.wast_exports.proofs.ExportLaws.{export_laws}
use Rattle.wast_customs.proofs.CustomLaws.{custom_laws}
use Rattle.wast_imports.proofs.ImportLaws.{imports_laws}
use Rattle.wast_module_fields.specs.FieldSyntax.{start_body, start, defining, describing, defining_starts, field}
use Rattle.wast_fields.proofs.FieldLaws.{tag_laws, global_laws, func_laws, elem_laws, data_laws, memory_laws, table_laws}

module _ {N P : Type 0} where
  pub start_body_laws : Lawful (start_body {N = N} {P = P})
  start_body_laws = seen_laws _ _ (seq_laws _ _ (word_laws (codes "start")) index_laws refl)

  pub start_laws : Lawful (start {N = N} {P = P})
  start_laws = paren_laws start_body start_body_laws refl refl

  -- FIELDS
  pub defining_laws : Lawful (defining {N = N} {P = P})
  defining_laws =
      either_laws (this_group (codes "func") ∷ []) _ _ (seen_laws _ _ func_laws)
      (either_laws (this_group (codes "table") ∷ []) _ _ (seen_laws _ _ table_laws)
      (either_laws (this_group (codes "memory") ∷ []) _ _ (seen_laws _ _ memory_laws)
      (either_laws (this_group (codes "global") ∷ []) _ _ (seen_laws _ _ global_laws) (seen_laws _ _ tag_laws) refl refl refl refl) refl refl refl refl) refl refl refl refl) refl refl refl refl

  pub describing_laws : Lawful (describing {N = N} {P = P})
  describing_laws =
      either_laws export_starts _ _ (seen_laws _ _ export_laws)
      (either_laws (this_group (codes "start") ∷ []) _ _ (seen_laws _ _ start_laws)
      (either_laws (this_group (codes "elem") ∷ []) _ _ (seen_laws _ _ elem_laws)
      (either_laws (this_group (codes "data") ∷ []) _ _ (seen_laws _ _ data_laws) (seen_laws _ _ custom_laws) refl refl refl refl) refl refl refl refl) refl refl refl refl) refl refl refl refl

  pub field_laws : Lawful (field {N = N} {P = P})
  field_laws =
      either_laws type_starts _ _ (seen_laws _ _ type_item_laws)
      (either_laws (this_group (codes "rec") ∷ []) _ _ (seen_laws _ _ rec_group_laws)
      (either_laws import_starts _ _ (seen_laws _ _ imports_laws)
      (either_laws defining_starts _ _ defining_laws describing_laws refl refl refl refl) refl refl refl refl) refl refl refl refl) refl refl refl refl
