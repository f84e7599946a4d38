use Rattle.std.proofs.Common.{◌≡◌, take}
use Rattle.wast_module_fields.specs.ModuleFieldViews.{field_tree}
use Rattle.wast_names.specs.Walk.{reached}
use Rattle.wast_implied.specs.Known.{after_written_field}
use Rattle.wast_implied.specs.Views.{known}
use Rattle.wast_implied.proofs.gathered.Implied.add_written.Given as goal

abbrev pub invariant-loop-field : goal.invariant-loop-field
invariant-loop-field l = known l.self ≡ reached (λ k f. after_written_field k (field_tree f)) (known l.fn.self) (take l.field-index l.fields)
