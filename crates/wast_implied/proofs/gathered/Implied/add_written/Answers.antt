use Rattle.wast_module_fields.specs.ModuleFieldViews.{field_tree}
use Rattle.wast_implied.specs.Known.{after_written_field}
use Rattle.wast_implied.specs.Views.{known}
use Rattle.wast_implied.proofs.Steps.{step}
use Rattle.wast_implied.proofs.gathered.Implied.add_written.Goals as goal

pub loop-field-preserved : goal.loop-field-preserved
loop-field-preserved c =
    step (λ k f. after_written_field k (field_tree f)) (known c.args.self.now) (known c.loop-field.self) (known c.add_written_field.new.self) c.args.fields.now c.loop-field.field-index c.field-item.result
    c.loop-field-test.true c.field-item.is c.loop-field.invariant c.in_ok-add_written_field.ensures
