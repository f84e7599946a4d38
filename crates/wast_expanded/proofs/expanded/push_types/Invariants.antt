use Rattle.std.proofs.Common.{◌≡◌, ◌++◌, map, take}
use Rattle.wast_module_fields.specs.ModuleFieldViews.{field_tree}
use Rattle.wast_meaning.specs.Numbered.{implied_field}
use Rattle.wast_implied.specs.Views.{implied_tree}
use Rattle.wast_expanded.proofs.expanded.push_types.Given as goal

abbrev pub invariant-loop-ty : goal.invariant-loop-ty
invariant-loop-ty l = map field_tree l.out.items ≡ map field_tree l.fn.out.items ++ map implied_field (map implied_tree (take l.ty-index l.types))
