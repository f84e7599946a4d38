use Rattle.std.proofs.Common.{◌∙◌}
use Rattle.wast_core_types.specs.TypeViews.{comp_tree}
use Rattle.wast_core_types.proofs.Depths.{closed_one}
use Rattle.wast_parser.proofs.States.{keeps_trans}
use Rattle.wast_core_types.proofs.composite.close_shared.Goals as goal

pub groups-preserved : goal.groups-preserved
groups-preserved c = record {
  keeps = keeps_trans _ _ _ c.groups.invariant.keeps c.in-Ok.ensures.keeps;
  same = closed_one c.groups.left (comp_tree c.groups.comp) _ _ _ c.groups-test.true c.in-Ok.ensures.read ∙ c.groups.invariant.same;
}
