-- The words that fields begin with.
use Rattle.std.specs.Prelude.{ℕ, List, [], ◌∷◌, ◌++◌, map, codes}
use Rattle.wast_exports.specs.Exports.{export_kinds, export_word}
use Rattle.wast_exports.specs.ExportViews.{kind_view}
use Rattle.wast_module_fields.specs.declared.field_word.FieldWord.{FieldWord}
use Rattle.wast_module_fields.specs.declared.field_word.FieldWord.TheVariants as fields

abbrev pub field_word : FieldWord → List ℕ
field_word fields.Type = codes "type"
field_word fields.Rec = codes "rec"
field_word fields.Import = codes "import"
field_word (fields.Defining kind) = export_word (kind_view kind)
field_word fields.Export = codes "export"
field_word fields.Start = codes "start"
field_word fields.Elem = codes "elem"
field_word fields.Data = codes "data"

-- all of them, in the order in which fields are told apart; those behind the first
abbrev pub words_behind : List (List ℕ)
words_behind = codes "rec" ∷ codes "import" ∷ map export_word export_kinds ++ codes "export" ∷ codes "start" ∷ codes "elem" ∷ codes "data" ∷ []

abbrev pub field_words : List (List ℕ)
field_words = codes "type" ∷ words_behind
