use Rattle.std.proofs.Common.{◌≡◌, drop}
use Rattle.wast_names.specs.Walk.{first_unmet, walked}
use Rattle.wast_names.specs.Demand.{is_met}
use Rattle.wast_scopes.specs.Views.{known}
use Rattle.wast_scopes.proofs.Walks.{asks, goes}
use Rattle.wast_scopes.proofs.body.check_instructions.Given as goal

abbrev pub invariant-loop-instruction : goal.invariant-loop-instruction
invariant-loop-instruction l = first_unmet is_met (walked (asks (known l.scope)) goes l.labels (drop l.instruction-index l.instructions)) ≡ first_unmet is_met (walked (asks (known l.scope)) goes l.fn.labels l.instructions)
