use Rattle.std.proofs.Common.{◌≡◌}
use Rattle.wast_parser.specs.State.{ahead, Keeps}
use Rattle.wast_core_types.specs.TypeViews.{comp_tree}
use Rattle.wast_core_types.specs.Depths.{closed}
use Rattle.wast_core_types.proofs.composite.close_shared.Given as goal

abbrev pub invariant-groups : goal.invariant-groups
invariant-groups l = record {
  keeps : Keeps l.fn.parser l.parser;
  same : closed l.left (comp_tree l.comp, ahead l.parser) ≡ closed l.fn.depth (comp_tree l.fn.comp, ahead l.fn.parser);
}

abbrev pub decreases-groups : goal.decreases-groups
decreases-groups l = l.left
