-- Constant expressions that are in range and close the blocks that they open.
use Rattle.std.proofs.Common.{List}
use Rattle.std.specs.Prelude.{Result, Ok, Err, OnOk}
use Rattle.std.specs.List.{AllByRecursion}
use Rattle.wasm_encoder_base.specs.Balanced.{IsBalanced}
use Rattle.wasm_encoder_base.specs.Instr.{Instr, IsInstr}
use Rattle.wasm_encoder_code.specs.Laws.{IsExpression}

pub is_expression : {A E : Type 0} (is : List Instr) (r : Result A E) → IsBalanced is 0 → OnOk r (AllByRecursion IsInstr is) → OnOk r (IsExpression is)
is_expression is (Ok x) b h = record { instructions = h; balanced = b }
is_expression is (Err e) b h = tt
