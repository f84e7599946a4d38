-- When index spaces are those of fields.
use Rattle.std.specs.Prelude.{◌≡◌, ℕ, List, map}
use Rattle.wasm_encoder_base.specs.Table as table
use Rattle.wast_grammar.specs.Tokens.{Name}
use Rattle.wast_grammar.specs.Spelling.{same_name}
use Rattle.wast_names.specs.Space.{name_in}
use Rattle.wast_names.specs.Position.{position}
use Rattle.wast_field_syntax.specs.FieldTree.{Field}
use Rattle.wast_meaning.specs.Spaces.{denotes, fields_at}
use Rattle.wast_spaces.specs.declared.spaces.Spaces.{Spaces}
use Rattle.wast_spaces.specs.Views.{spaces_of}
use Rattle.wast_numbered.specs.Place.{fields_in}

-- They tell what names mean, those of the fields of types too.
pub record Tells (s : Spaces) (fs : List (Field Name ℕ)) : Type 0 where
  pub items : (space : table.Space) (n : Name) → (spaces_of s space).look n ≡ denotes same_name fs space n
  pub fields : (t : ℕ) (n : Name) → (fields_in s t).look n ≡ position same_name n (map name_in (fields_at fs t))
