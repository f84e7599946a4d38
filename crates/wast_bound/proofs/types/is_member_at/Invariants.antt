use Rattle.std.proofs.Common.{◌≡◌, map}
use Rattle.std.specs.Prelude.{slice_get}
use Rattle.std.specs.List.{flat_map}
use Rattle.wast_core.specs.ModuleFieldViews.{field_tree}
use Rattle.wast_bound.specs.Bound.{types}
use Rattle.wast_bound.proofs.TypeWalk.{types_from}
use Rattle.wast_bound.proofs.types.is_member_at.Given as goal

abbrev pub invariant-loop-field : goal.invariant-loop-field
invariant-loop-field l = slice_get (types_from field_tree types l.fields l.field-index) l.number ≡ slice_get (flat_map types (map field_tree l.fields)) l.fn.number
