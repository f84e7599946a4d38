use Rattle.std.proofs.Common.{◌≡◌, map, take, All}
use Rattle.wasm_encoder_base.specs.Instr.{IsCatch}
use Rattle.wasm_encoder_instr.specs.Catch.{catch_view}
use Rattle.wast_typed_operands.specs.TypedViews.{catch_tree}
use Rattle.wast_conversions.specs.Operands.{catch_meant}
use Rattle.wast_conversions.proofs.instructions.catches.Given as goal

abbrev pub invariant-loop-clause : goal.invariant-loop-clause
invariant-loop-clause l = record {
  same : map catch_view l.converted.items ≡ map catch_meant (map catch_tree (take l.clause-index l.clauses));
  sound : All (λ c. IsCatch (catch_meant (catch_tree c))) (take l.clause-index l.clauses);
}
