use Rattle.std.proofs.Common.{take}
use Rattle.std.specs.List.{flat_map}
use Rattle.wast_name_maps.specs.Numbered.{NamesJoined}
use Rattle.wast_name_maps.proofs.Gathering.{struct_names}
use Rattle.wast_name_maps.proofs.types.add_fields.Given as goal

abbrev pub invariant-loop-field : goal.invariant-loop-field
invariant-loop-field l = NamesJoined l.fn.names l.names (flat_map struct_names (take l.field-index l.fields))
