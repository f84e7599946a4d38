use Rattle.std.proofs.Common.{codes, sym, ◌∙◌, arith}
use Rattle.wast_binary.proofs.Left.{goes, ends, passes, takes, any_takes}
use Rattle.wast_binary.proofs.names_section.is_name_taken.Goals as goal

pub loop-field-preserved : goal.loop-field-preserved
loop-field-preserved c =
    goes (takes (codes "name")) c.args.fields.now c.loop-field.field-index c.field-item.result (omega arith) c.field-item.is (sym c.takes_name.ensures ∙ c.if-takes_name.false) c.loop-field.invariant

pub returns : goal.returns
returns c = ends (takes (codes "name")) c.args.fields.now c.loop-field.field-index (omega arith) c.loop-field.invariant ∙ any_takes (codes "name") c.args.fields.now

pub returns-then-takes_name : goal.returns-then-takes_name
returns-then-takes_name c =
    passes (takes (codes "name")) c.args.fields.now c.loop-field.field-index c.field-item.result (omega arith) c.field-item.is (sym c.takes_name.ensures ∙ c.if-takes_name.true) c.loop-field.invariant
    ∙ any_takes (codes "name") c.args.fields.now
