-- What is imported inline, as the grammar sees it.
use Rattle.std.specs.Prelude.{ℕ}
use Rattle.wast_grammar.specs.Tokens.{Name}
use Rattle.wast_exports.specs.ExportViews.{inline_import_tree}
use Rattle.wast_exports.specs.declared.inline.InlineImport.{InlineImport}
use Rattle.wast_imports.specs.ImportTree.{ExternType}
use Rattle.wast_field_syntax.specs.FieldTree as spec

abbrev pub imported : InlineImport → ExternType Name ℕ → spec.Defined Name ℕ
imported i type = spec.Imported (inline_import_tree i).0 (inline_import_tree i).1 type
