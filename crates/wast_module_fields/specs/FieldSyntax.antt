-- The syntax of fields (WebAssembly 3.0, 6.6, the start function and modules).
use Rattle.std.specs.Prelude.{List, [], ◌∷◌, codes}
use Rattle.wast_parser.specs.Look.{Test, this_group, join, type_starts}
use Rattle.wast_parser.specs.Grammar.{Syntax, word, seen, seq, either, paren}
use Rattle.wast_parser.specs.Identifiers.{Reference, index}
use Rattle.wast_signatures.specs.TypeSyntax.{type_item, rec_group}
use Rattle.wast_exports.specs.Exports.{export_starts, import_starts, export}
use Rattle.wast_customs.specs.CustomSyntax.{custom_starts, custom}
use Rattle.wast_imports.specs.ImportSyntax.{imports}
use Rattle.wast_fields.specs.FieldTree.{Start, Field, TypeField, RecField, ImportField, Define, ExportField, StartField, ElemField, DataField, CustomField}
use Rattle.wast_fields.specs.FuncSyntax.{func, global, tag}
use Rattle.wast_fields.specs.TableSyntax.{table, memory}
use Rattle.wast_fields.specs.ElemSyntax.{elem}
use Rattle.wast_fields.specs.DataSyntax.{data_segment}

-- what fields begin with, and among them those that define something
abbrev pub defining_starts : List Test
defining_starts = this_group (codes "func") ∷ this_group (codes "table") ∷ this_group (codes "memory") ∷ this_group (codes "global") ∷ this_group (codes "tag") ∷ []

abbrev pub describing_starts : List Test
describing_starts = this_group (codes "export") ∷ this_group (codes "start") ∷ this_group (codes "elem") ∷ this_group (codes "data") ∷ custom_starts

abbrev pub field_starts : List Test
field_starts = this_group (codes "type") ∷ this_group (codes "rec") ∷ this_group (codes "import") ∷ join defining_starts describing_starts

module _ {N P : Type 0} where
  -- THE START FUNCTION (6.6, start function): (start index)
  abbrev pub as_start : P × Reference N P → Start N P
  as_start s = record { place = s.0; func = s.1 }

  abbrev pub start_body : Syntax N P (Start N P)
  start_body = seen as_start (seq (word (codes "start")) index)

  abbrev pub start : Syntax N P (Start N P)
  start = paren start_body

  -- FIELDS
  abbrev pub defining : Syntax N P (Field N P)
  defining =
      either (this_group (codes "func") ∷ []) (seen Define func)
      (either (this_group (codes "table") ∷ []) (seen Define table)
      (either (this_group (codes "memory") ∷ []) (seen Define memory)
      (either (this_group (codes "global") ∷ []) (seen Define global) (seen Define tag))))

  abbrev pub describing : Syntax N P (Field N P)
  describing =
      either export_starts (seen ExportField export)
      (either (this_group (codes "start") ∷ []) (seen StartField start)
      (either (this_group (codes "elem") ∷ []) (seen ElemField elem)
      (either (this_group (codes "data") ∷ []) (seen DataField data_segment) (seen CustomField custom))))

  abbrev pub field : Syntax N P (Field N P)
  field =
      either type_starts (seen TypeField type_item)
      (either (this_group (codes "rec") ∷ []) (seen RecField rec_group)
      (either import_starts (seen ImportField imports)
      (either defining_starts defining describing)))
