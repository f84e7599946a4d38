use Rattle.std.proofs.Common.{◌≡◌, None, drop}
use Rattle.std.specs.Prelude.{option_map}
use Rattle.wast_names.specs.Walk.{first_unmet, walked}
use Rattle.wast_names.specs.Demand.{is_met}
use Rattle.wast_spaces.specs.Views.{space_of}
use Rattle.wast_spaces.proofs.Ordered.{asks, after}
use Rattle.wast_spaces.proofs.order.check_order.Given as goal

abbrev pub invariant-loop-field : goal.invariant-loop-field
invariant-loop-field l = first_unmet is_met (walked asks after (option_map space_of l.nearest) (drop l.field-index l.fields)) ≡ first_unmet is_met (walked asks after None l.fields)
