use Rattle.std.proofs.Common.{◌≡◌, map, take, All}
use Rattle.wasm_layout.specs.IsModule.{IsU32}
use Rattle.wast_parser.specs.Identifiers.{index_tree}
use Rattle.wast_conversions.specs.Types.{number_of}
use Rattle.wast_conversions.proofs.indices.all_indices.Given as goal

abbrev pub invariant-loop-number : goal.invariant-loop-number
invariant-loop-number l = record {
  same : l.numbers.items ≡ map number_of (map index_tree (take l.number-index l.indices));
  sound : All (λ i. IsU32 (number_of (index_tree i))) (take l.number-index l.indices);
}
