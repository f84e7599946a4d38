use Rattle.std.proofs.Common.{◌≡◌, map, drop}
use Rattle.wast_vector_operands.specs.VectorViews.{vector_tree}
use Rattle.wast_data.specs.DataTree.{vectors_bytes}
use Rattle.wast_data.proofs.Appended.{with_bytes}
use Rattle.wast_data.proofs.bytes.vectors_bytes.Given as goal

abbrev pub invariant-loop-vector : goal.invariant-loop-vector
invariant-loop-vector l = with_bytes l.bytes.items (map vector_tree (drop l.vector-index l.vectors)) ≡ vectors_bytes (map vector_tree l.vectors)
