use Rattle.std.proofs.Common.{take}
use Rattle.std.specs.List.{flat_map}
use Rattle.wast_name_maps.specs.Kinds.{inside_view}
use Rattle.wast_name_maps.specs.Numbered.{GroupsJoined}
use Rattle.wast_name_maps.proofs.Gathering.{code_groups}
use Rattle.wast_name_maps.proofs.inside.add_fields.Given as goal

abbrev pub invariant-loop-field : goal.invariant-loop-field
invariant-loop-field l = GroupsJoined l.fn.groups l.groups (flat_map (code_groups (inside_view l.kind) l.counts) (take l.field-index l.fields))
