use Rattle.wast_module_fields.specs.ModuleFieldViews.{field_tree}
use Rattle.wast_meaning.specs.Mentions.{parts}
use Rattle.wast_mentions.proofs.Judging.{Left}
use Rattle.wast_parts.proofs.fields.tell_all_parts.Given as goal

abbrev pub invariant-loop-field : goal.invariant-loop-field
invariant-loop-field g l = let j = g.J.PartJudgement in Left (j.asks l.fn.judge) j.holds j.tells (λ f. parts (field_tree f)) l.fields l.field-index
