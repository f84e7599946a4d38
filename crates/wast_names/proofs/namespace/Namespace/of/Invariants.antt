use Rattle.std.proofs.Common.{◌≡◌, take, drop}
use Rattle.wast_names.specs.Walk.{first_unmet, walked, reached}
use Rattle.wast_names.specs.Demand.{is_met}
use Rattle.wast_names.specs.Space.{empty}
use Rattle.wast_names.specs.Views.{space}
use Rattle.wast_names.proofs.Items.{asks, after}
use Rattle.wast_names.proofs.namespace.Namespace.of.Given as goal

abbrev pub invariant-loop-item : goal.invariant-loop-item
invariant-loop-item l = record {
  known : space l.names ≡ reached (after l.fn.desc) empty (take l.item-index l.items);
  met : first_unmet is_met (walked (asks l.fn.desc) (after l.fn.desc) (space l.names) (drop l.item-index l.items)) ≡ first_unmet is_met (walked (asks l.fn.desc) (after l.fn.desc) empty l.items);
  few : (space l.names).count ≡ l.item-index;
}
