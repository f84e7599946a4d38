use Rattle.std.proofs.Common.{arith}
use Rattle.wast_module_fields.specs.ModuleFieldViews.{field_tree}
use Rattle.wast_meant.specs.FieldsMeant.{datas_of}
use Rattle.wast_binary.proofs.Totals.{count_behind, count_all}
use Rattle.wast_binary.proofs.data_count.count_of.Goals as goal

pub loop-field-preserved : goal.loop-field-preserved
loop-field-preserved c =
    let l = c.loop-field in
    record {
      counted = count_behind datas_of field_tree c.args.fields.now l.field-index _ _ _ (omega arith) c.field-item.is l.invariant.counted c.data_in-count.ensures.count;
      few = omega (arith, l.invariant.few, c.data_in-count.ensures.one);
    }

pub returns : goal.returns
returns c = count_all datas_of field_tree c.args.fields.now c.loop-field.field-index _ (omega arith) c.loop-field.invariant.counted
