use Rattle.std.proofs.Common.{arith}
use Rattle.wast_binary.proofs.NotedFields.{one_noted, all_noted}
use Rattle.wast_binary.proofs.present.Present.of.Goals as goal

pub loop-field-preserved : goal.loop-field-preserved
loop-field-preserved c =
    let l = c.loop-field in
    one_noted l.present _ c.args.fields.now l.field-index c.field-item.result (omega arith) c.field-item.is c.note.ensures l.invariant

pub returns : goal.returns
returns c = all_noted _ c.args.fields.now c.loop-field.field-index (omega arith) c.loop-field.invariant
