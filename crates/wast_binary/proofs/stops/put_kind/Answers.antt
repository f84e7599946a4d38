use Rattle.std.specs.Prelude.{option_map}
use Rattle.wast_parser.specs.Identifiers.{identifier_tree}
use Rattle.wast_signatures.specs.SignatureViews.{name_tree}
use Rattle.wast_binary.specs.Sources.{fields_in}
use Rattle.wast_module_fields.specs.ModuleFieldViews.{field_tree}
use Rattle.wast_section_items.specs.Ready.{FieldReady}
use Rattle.wast_binary.proofs.AtKind.{at_kind}
use Rattle.wast_binary.proofs.Hinted.{fields_hinted}
use Rattle.wast_conversions.proofs.Each.{each_of}
use Rattle.wast_binary.proofs.Listed as kinds
use Rattle.wast_binary.proofs.Others as others
use Rattle.wast_binary.proofs.stops.put_kind.Goals as goal

pub put_types-requires : goal.put_types-requires
put_types-requires c = each_of FieldReady field_tree c.args.fields.now c.requires.can.ready

pub put_imports-requires : goal.put_imports-requires
put_imports-requires c = each_of FieldReady field_tree c.args.fields.now c.requires.can.ready

pub put_functions-requires : goal.put_functions-requires
put_functions-requires c = each_of FieldReady field_tree c.args.fields.now c.requires.can.ready

pub put_tables-requires : goal.put_tables-requires
put_tables-requires c = each_of FieldReady field_tree c.args.fields.now c.requires.can.ready

pub put_memories-requires : goal.put_memories-requires
put_memories-requires c = each_of FieldReady field_tree c.args.fields.now c.requires.can.ready

pub put_tags-requires : goal.put_tags-requires
put_tags-requires c = each_of FieldReady field_tree c.args.fields.now c.requires.can.ready

pub put_globals-requires : goal.put_globals-requires
put_globals-requires c = each_of FieldReady field_tree c.args.fields.now c.requires.can.ready

pub put_exports-requires : goal.put_exports-requires
put_exports-requires c = each_of FieldReady field_tree c.args.fields.now c.requires.can.ready

pub put_start-requires : goal.put_start-requires
put_start-requires c = each_of FieldReady field_tree c.args.fields.now c.requires.can.ready

pub put_elements-requires : goal.put_elements-requires
put_elements-requires c = each_of FieldReady field_tree c.args.fields.now c.requires.can.ready

pub put_codes-requires : goal.put_codes-requires
put_codes-requires c = each_of FieldReady field_tree c.args.fields.now c.requires.can.ready

pub put_datas-requires : goal.put_datas-requires
put_datas-requires c = each_of FieldReady field_tree c.args.fields.now c.requires.can.ready

pub put_hints-requires : goal.put_hints-requires
put_hints-requires c = fields_hinted (fields_in c.args.fields.now) c.requires.can.ready

pub returns-in-Types : goal.returns-in-Types
returns-in-Types c =
    at_kind c.args.id.now c.args.name.now c.args.fields.now c.in-Types.is (kinds.put_types (option_map name_tree c.args.name.now) (option_map identifier_tree c.args.id.now) (fields_in c.args.fields.now) _ _ c.put_types.result c.put_types.ensures)

pub returns-in-Imports : goal.returns-in-Imports
returns-in-Imports c =
    at_kind c.args.id.now c.args.name.now c.args.fields.now c.in-Imports.is (kinds.put_imports (option_map name_tree c.args.name.now) (option_map identifier_tree c.args.id.now) (fields_in c.args.fields.now) _ _ c.put_imports.result c.put_imports.ensures)

pub returns-in-Functions : goal.returns-in-Functions
returns-in-Functions c =
    at_kind c.args.id.now c.args.name.now c.args.fields.now c.in-Functions.is (kinds.put_functions (option_map name_tree c.args.name.now) (option_map identifier_tree c.args.id.now) (fields_in c.args.fields.now) _ _ c.put_functions.result c.put_functions.ensures)

pub returns-in-Tables : goal.returns-in-Tables
returns-in-Tables c =
    at_kind c.args.id.now c.args.name.now c.args.fields.now c.in-Tables.is (kinds.put_tables (option_map name_tree c.args.name.now) (option_map identifier_tree c.args.id.now) (fields_in c.args.fields.now) _ _ c.put_tables.result c.put_tables.ensures)

pub returns-in-Memories : goal.returns-in-Memories
returns-in-Memories c =
    at_kind c.args.id.now c.args.name.now c.args.fields.now c.in-Memories.is (kinds.put_memories (option_map name_tree c.args.name.now) (option_map identifier_tree c.args.id.now) (fields_in c.args.fields.now) _ _ c.put_memories.result c.put_memories.ensures)

pub returns-in-Tags : goal.returns-in-Tags
returns-in-Tags c =
    at_kind c.args.id.now c.args.name.now c.args.fields.now c.in-Tags.is (kinds.put_tags (option_map name_tree c.args.name.now) (option_map identifier_tree c.args.id.now) (fields_in c.args.fields.now) _ _ c.put_tags.result c.put_tags.ensures)

pub returns-in-Globals : goal.returns-in-Globals
returns-in-Globals c =
    at_kind c.args.id.now c.args.name.now c.args.fields.now c.in-Globals.is (kinds.put_globals (option_map name_tree c.args.name.now) (option_map identifier_tree c.args.id.now) (fields_in c.args.fields.now) _ _ c.put_globals.result c.put_globals.ensures)

pub returns-in-Exports : goal.returns-in-Exports
returns-in-Exports c =
    at_kind c.args.id.now c.args.name.now c.args.fields.now c.in-Exports.is (kinds.put_exports (option_map name_tree c.args.name.now) (option_map identifier_tree c.args.id.now) (fields_in c.args.fields.now) _ _ c.put_exports.result c.put_exports.ensures)

pub returns-in-Starts : goal.returns-in-Starts
returns-in-Starts c =
    at_kind c.args.id.now c.args.name.now c.args.fields.now c.in-Starts.is (others.put_start (option_map name_tree c.args.name.now) (option_map identifier_tree c.args.id.now) (fields_in c.args.fields.now) _ _ c.put_start.result c.put_start.ensures.sound c.put_start.ensures.put)

pub returns-in-Elements : goal.returns-in-Elements
returns-in-Elements c =
    at_kind c.args.id.now c.args.name.now c.args.fields.now c.in-Elements.is (kinds.put_elements (option_map name_tree c.args.name.now) (option_map identifier_tree c.args.id.now) (fields_in c.args.fields.now) _ _ c.put_elements.result c.put_elements.ensures)

pub returns-in-DataCount : goal.returns-in-DataCount
returns-in-DataCount c =
    at_kind c.args.id.now c.args.name.now c.args.fields.now c.in-DataCount.is (others.put_data_count (option_map name_tree c.args.name.now) (option_map identifier_tree c.args.id.now) (fields_in c.args.fields.now) _ _ c.put_data_count.result c.put_data_count.ensures)

pub returns-in-Hints : goal.returns-in-Hints
returns-in-Hints c =
    at_kind c.args.id.now c.args.name.now c.args.fields.now c.in-Hints.is (others.put_hints (option_map name_tree c.args.name.now) (option_map identifier_tree c.args.id.now) (fields_in c.args.fields.now) _ _ c.put_hints.result c.requires.can c.requires.few c.put_hints.ensures)

pub returns-in-Codes : goal.returns-in-Codes
returns-in-Codes c =
    at_kind c.args.id.now c.args.name.now c.args.fields.now c.in-Codes.is (kinds.put_codes (option_map name_tree c.args.name.now) (option_map identifier_tree c.args.id.now) (fields_in c.args.fields.now) _ _ c.put_codes.result c.put_codes.ensures)

pub returns-in-Datas : goal.returns-in-Datas
returns-in-Datas c =
    at_kind c.args.id.now c.args.name.now c.args.fields.now c.in-Datas.is (kinds.put_datas (option_map name_tree c.args.name.now) (option_map identifier_tree c.args.id.now) (fields_in c.args.fields.now) _ _ c.put_datas.result c.put_datas.ensures)

pub returns-in-Names : goal.returns-in-Names
returns-in-Names c =
    at_kind c.args.id.now c.args.name.now c.args.fields.now c.in-Names.is (others.put_names (option_map name_tree c.args.name.now) (option_map identifier_tree c.args.id.now) (fields_in c.args.fields.now) _ _ c.put_names.result c.requires.can c.requires.few c.put_names.ensures)
