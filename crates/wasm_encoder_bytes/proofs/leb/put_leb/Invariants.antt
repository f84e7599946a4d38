use Rattle.std.proofs.Common.{◌≡◌, ◌++◌, List, ℕ}
use Rattle.wasm_encoder_bytes.specs.Leb.{leb}
use Rattle.wasm_encoder_bytes.proofs.leb.put_leb.Given as goal

abbrev pub invariant-loop-rest : goal.invariant-loop-rest
invariant-loop-rest l = record {
  same : l.sink.items ++ leb l.flip l.limit l.rest ≡ l.fn.sink.items ++ leb l.flip l.limit l.n;
  grown : (more : List ℕ) × (l.sink.items ≡ l.fn.sink.items ++ more);
}

abbrev pub decreases-loop-rest : goal.decreases-loop-rest
decreases-loop-rest l = l.rest
