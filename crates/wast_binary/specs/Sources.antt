-- What contracts see of what is encoded, an identifier, a `@name` and fields: the module that they stand for, and what stands at its stops.
use Rattle.std.specs.Prelude.{ℕ, List, Option, map, option_map}
use Rattle.wast_grammar.specs.Tokens.{Name}
use Rattle.wast_parser_base.specs.Identifier.{Identifier}
use Rattle.wast_parser_base.specs.declared.index.NameAnnotation.{NameAnnotation}
use Rattle.wast_parser.specs.Identifiers.{identifier_tree}
use Rattle.wast_signatures.specs.SignatureViews.{name_tree}
use Rattle.wast_module_fields.specs.FieldTree.{Field}
use Rattle.wast_module_fields.specs.ModuleFieldViews.{field_tree}
use Rattle.wast_module_fields.specs.declared.field.ModuleField.{ModuleField}
use Rattle.wasm_layout.specs.AbstractModule.{AbstractModule}
use Rattle.wasm_layout.specs.Layout.{Piece}
use Rattle.wast_meant.specs.CustomsMeant.{Stop}
use Rattle.wast_binary.specs.Parts.{module_of, pieces_of}

abbrev pub fields_in : List ModuleField → List (Field Name ℕ)
fields_in fields = map field_tree fields

module _ (id : Option Identifier) (name : Option NameAnnotation) (fields : List ModuleField) where
  abbrev pub module_in : AbstractModule (List ℕ)
  module_in = module_of (option_map name_tree name) (option_map identifier_tree id) (fields_in fields)

  abbrev pub pieces_at : Stop → List Piece
  pieces_at stop = pieces_of (fields_in fields) module_in stop
