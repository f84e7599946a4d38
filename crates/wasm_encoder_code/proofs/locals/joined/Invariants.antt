use Rattle.std.proofs.Common.{◌≡◌, ◌++◌, ◌<◌, ◌^◌, length, map}
use Rattle.std.specs.List.{AllByRecursion}
use Rattle.wasm_encoder_base.specs.Views.{val_view}
use Rattle.wasm_encoder_code.specs.Body.{Run, joined}
use Rattle.wasm_encoder_code.specs.Locals.{run_view}
use Rattle.wasm_encoder_code.proofs.locals.joined.Given as goal

abbrev pub invariant-loop-more : goal.invariant-loop-more
invariant-loop-more l = record {
  runs : map run_view l.runs.items ++ joined (map val_view l.rest) ≡ joined (map val_view l.fn.locals);
  counts : AllByRecursion (λ (r : Run). r.count < 2 ^ 32) (map run_view l.runs.items);
}

abbrev pub decreases-loop-more : goal.decreases-loop-more
decreases-loop-more l = length l.rest
