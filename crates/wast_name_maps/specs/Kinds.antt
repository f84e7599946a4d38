-- What contracts see of the kinds of name maps, and of what they are of.
use Rattle.std.specs.Prelude.{ℕ, List, Option, map, option_map}
use Rattle.wasm_encoder_custom.specs.Names as names
use Rattle.wasm_layout.specs.AbstractModule.{NameMaps}
use Rattle.wasm_layout.specs.Present as present
use Rattle.wast_parser_base.specs.Identifier.{Identifier}
use Rattle.wast_parser_base.specs.declared.index.NameAnnotation.{NameAnnotation}
use Rattle.wast_parser.specs.Identifiers.{identifier_tree}
use Rattle.wast_signatures.specs.SignatureViews.{name_tree}
use Rattle.wast_module_fields.specs.ModuleFieldViews.{field_tree}
use Rattle.wast_module_fields.specs.declared.field.ModuleField.{ModuleField}
use Rattle.wast_name_maps.specs.declared.kinds.Items.{Items}
use Rattle.wast_name_maps.specs.declared.kinds.Items.TheVariants as items
use Rattle.wast_name_maps.specs.declared.kinds.Inside.{Inside}
use Rattle.wast_name_maps.specs.declared.kinds.Inside.TheVariants as insides
use Rattle.wast_name_maps.specs.declared.kinds.Map.{Map}
use Rattle.wast_name_maps.specs.declared.kinds.Map.TheVariants as maps
use Rattle.wast_name_maps.specs.Maps.{maps_in}

abbrev pub items_view : Items → names.Space
items_view items.Functions = names.Functions
items_view items.Types = names.Types
items_view items.Tables = names.Tables
items_view items.Memories = names.Memories
items_view items.Globals = names.Globals
items_view items.Elements = names.Elements
items_view items.DataSegments = names.DataSegments
items_view items.Tags = names.Tags

abbrev pub inside_view : Inside → names.InnerSpace
inside_view insides.Locals = names.Locals
inside_view insides.Labels = names.Labels
inside_view insides.Fields = names.Fields
inside_view insides.Parameters = names.Parameters
inside_view insides.TagParameters = names.TagParameters

abbrev pub map_view : Map → present.MapKind
map_view maps.Module = present.OfModule
map_view (maps.Items kind) = present.OfItems (items_view kind)
map_view (maps.Inside kind) = present.Inner (inside_view kind)

-- the maps of a module's names
abbrev pub maps_of : Option NameAnnotation → Option Identifier → List ModuleField → NameMaps (List ℕ)
maps_of name id fields = maps_in (option_map name_tree name) (option_map identifier_tree id) (map field_tree fields)
