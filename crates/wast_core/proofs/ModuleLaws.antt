-- The laws of modules: each mirrors its production.
use Rattle.std.proofs.Common.{false, [], ◌∷◌, refl}
use Rattle.std.specs.Prelude.{codes}
use Rattle.wast_parser.specs.Look.{On, AString, Any, this_word, this_group}
use Rattle.wast_parser.specs.Lawful.{Lawful}
use Rattle.wast_parser.proofs.GrammarLaws.{word_laws, string_laws, seen_laws, only_laws, seq_laws, many_laws, either_laws, led_laws, paren_laws}
use Rattle.wast_imports.proofs.ImportLaws.{head_laws}
use Rattle.wast_module_fields.specs.FieldSyntax.{field_starts}
use Rattle.wast_module_fields.proofs.ModuleFieldLaws.{field_laws}
use Rattle.wast_core.specs.ModuleSyntax.{fields, content, module_body, module_form, bare_module, wat}

module _ {N P : Type 0} where
  -- MODULES
  pub fields_laws : Lawful (fields {N = N} {P = P})
  fields_laws = only_laws _ _ (many_laws field_starts _ field_laws refl refl refl refl refl)

  pub content_laws : Lawful (content {N = N} {P = P})
  content_laws = either_laws (this_word (codes "binary") ∷ []) _ _ (seen_laws _ _ (led_laws (codes "binary") _ (many_laws (On false AString Any ∷ []) _ string_laws refl refl refl refl refl))) (seen_laws _ _ fields_laws) refl refl refl refl

  pub module_body_laws : Lawful (module_body {N = N} {P = P})
  module_body_laws = seen_laws _ _ (seq_laws _ _ (word_laws (codes "module")) (seq_laws _ _ head_laws content_laws refl) refl)

  pub module_form_laws : Lawful (module_form {N = N} {P = P})
  module_form_laws = paren_laws module_body module_body_laws refl refl

  pub bare_module_laws : Lawful (bare_module {N = N} {P = P})
  bare_module_laws = seen_laws _ _ (only_laws _ _ (seq_laws _ _ field_laws (many_laws field_starts _ field_laws refl refl refl refl refl) refl))

  pub wat_laws : Lawful (wat {N = N} {P = P})
  wat_laws = either_laws (this_group (codes "module") ∷ []) _ _ module_form_laws bare_module_laws refl refl refl refl
