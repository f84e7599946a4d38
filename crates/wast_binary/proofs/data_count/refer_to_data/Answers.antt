use Rattle.std.proofs.Common.{sym, ◌∙◌, arith}
use Rattle.wast_module_fields.specs.ModuleFieldViews.{field_tree}
use Rattle.wast_binary.specs.DataCount.{field_says_data}
use Rattle.wast_binary.proofs.Left.{goes, ends, passes, any_seen}
use Rattle.wast_binary.proofs.data_count.refer_to_data.Goals as goal

pub loop-field-preserved : goal.loop-field-preserved
loop-field-preserved c =
    goes (λ f. field_says_data (field_tree f)) c.args.fields.now c.loop-field.field-index c.field-item.result (omega arith) c.field-item.is (sym c.refers_to_data.ensures ∙ c.if-refers_to_data.false) c.loop-field.invariant

pub returns : goal.returns
returns c =
    ends (λ f. field_says_data (field_tree f)) c.args.fields.now c.loop-field.field-index (omega arith) c.loop-field.invariant ∙ any_seen field_says_data field_tree c.args.fields.now

pub returns-then-refers_to_data : goal.returns-then-refers_to_data
returns-then-refers_to_data c =
    passes (λ f. field_says_data (field_tree f)) c.args.fields.now c.loop-field.field-index c.field-item.result (omega arith) c.field-item.is (sym c.refers_to_data.ensures ∙ c.if-refers_to_data.true) c.loop-field.invariant
    ∙ any_seen field_says_data field_tree c.args.fields.now
