use Rattle.std.proofs.Common.{rules, arith}
use Rattle.std.specs.Prelude.{pos, negsuc, ◌≤ℤ◌}
use Rattle.wast_conversions.proofs.Constants.{i32_row, i64_row, i64_in_range}
use Rattle.wast_conversions.proofs.instructions.with_operands.Goals as goal

pub returns-in-I32Const-clause-operands : goal.returns-in-I32Const-clause-operands
returns-in-I32Const-clause-operands c = first_of (cc i32_row, grind (arith, i32_row))

pub returns-in-I64Const-clause-operands : goal.returns-in-I64Const-clause-operands
returns-in-I64Const-clause-operands c = first_of (cc i64_row, grind (arith, i64_row))

pub returns-in-I64Const-clause-sound : goal.returns-in-I64Const-clause-sound
returns-in-I64Const-clause-sound c h =
    let low : negsuc 9223372036854775807 ≤ℤ c.in-I64Const.value = first_of (search rules, grind arith) in
    let high : c.in-I64Const.value ≤ℤ pos 9223372036854775807 = first_of (search rules, grind arith) in
    i64_in_range c.args.instruction.now c.in-I64Const.value c.in-I64Const.is low high
