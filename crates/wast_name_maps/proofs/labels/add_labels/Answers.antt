use Rattle.std.proofs.lemmas.Result.{err_from_is_err_and}
use Rattle.wast_core_instr.specs.InstructionViews.{instruction_tree}
use Rattle.wast_name_maps.specs.Gathered.{label_names}
use Rattle.wast_spaces.proofs.Written.{viewed}
use Rattle.wast_name_maps.proofs.Joining.{joined_all, joined_more, unfit_at}
use Rattle.wast_name_maps.proofs.Gathering.{code_labels}
use Rattle.wast_name_maps.proofs.labels.add_labels.Goals as goal

pub returns-in_err-add_label : goal.returns-in_err-add_label
returns-in_err-add_label c =
    let p = err_from_is_err_and c.from_residual.result c.from_residual.ensures.1 in
    rw (p.1, p.2) (
    unfit_at code_labels c.args.names.now c.loop-instruction.names c.args.instructions.now c.loop-instruction.instruction-index c.instruction-item.result _ _ c.loop-instruction-test.true c.instruction-item.is
    (viewed instruction_tree label_names c.args.instructions.now) c.loop-instruction.invariant c.in_err-add_label.ensures
    )

pub loop-instruction-preserved : goal.loop-instruction-preserved
loop-instruction-preserved c =
    joined_more code_labels c.args.names.now c.loop-instruction.names c.add_label.new.names c.args.instructions.now c.loop-instruction.instruction-index c.instruction-item.result c.loop-instruction-test.true c.instruction-item.is
    c.loop-instruction.invariant c.in_ok-add_label.ensures

pub returns : goal.returns
returns c =
    joined_all code_labels c.args.names.now c.loop-instruction.names c.args.instructions.now c.loop-instruction.instruction-index _ c.loop-instruction-test.false (viewed instruction_tree label_names c.args.instructions.now) c.loop-instruction.invariant
