use Rattle.wast_module_fields.specs.ModuleFieldViews.{field_tree}
use Rattle.wast_binary.specs.DataCount.{field_says_data}
use Rattle.wast_binary.proofs.Left.{Left}
use Rattle.wast_binary.proofs.data_count.refer_to_data.Given as goal

abbrev pub invariant-loop-field : goal.invariant-loop-field
invariant-loop-field l = Left (λ f. field_says_data (field_tree f)) l.fields l.field-index
