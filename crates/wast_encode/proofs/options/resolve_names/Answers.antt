use Rattle.std.proofs.Common.{◌≡◌, None, Some, sym, ◌∙◌}
use Rattle.wast_core.specs.ModuleViews.{module_tree}
use Rattle.wast_encode.proofs.Encoded.{unresolved, unresolved_counts}
use Rattle.wast_encode.proofs.options.resolve_names.Goals as goal

pub returns-clause-fault : goal.returns-clause-fault
returns-clause-fault c = unresolved c.args.gensym.now (module_tree c.args.«module».now) _ c.in-Err.why c.unmet.result c.unmet.ensures c.in-Err.ensures.answers c.in-Err.ensures.refused c.in-Err.ensures.cause

pub returns-clause-reached : goal.returns-clause-reached
returns-clause-reached c = unresolved_counts c.args.gensym.now (module_tree c.args.«module».now) _ c.in-Err.why c.unmet.result _ c.unmet.ensures c.in-Err.ensures.refused c.in-Err.ensures.counted_unmet

pub returns-clause-taken : goal.returns-clause-taken
returns-clause-taken c = λ was none. let e : None ≡ Some c.in-Err.ensures.refused.why = sym none ∙ c.in-Err.ensures.refused.kept in absurd (cc)
