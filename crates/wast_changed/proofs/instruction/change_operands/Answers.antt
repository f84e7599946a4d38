use Rattle.wast_changed.proofs.Instructions.{without_type_use}
use Rattle.wast_changed.proofs.instruction.change_operands.Goals as goal

pub returns-in_default-clause-operands : goal.returns-in_default-clause-operands
returns-in_default-clause-operands g c = c.change_plain.ensures.operands
    (without_type_use c.args.instruction.now c.in_default.not-Block c.in_default.not-Loop c.in_default.not-If c.in_default.not-Try c.in_default.not-TryTable
    c.in_default.not-CallIndirect c.in_default.not-ReturnCallIndirect)
