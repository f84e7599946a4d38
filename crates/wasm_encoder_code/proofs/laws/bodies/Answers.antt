use Rattle.std.proofs.Common.{◌∙◌, ◌++◌, ap, map, sym}
use Rattle.wasm_encoder_base.specs.Bytes.{counted}
use Rattle.wasm_encoder_base.specs.Instr.{expr_bytes}
use Rattle.wasm_encoder_base.proofs.Mapped.{counted_view}
use Rattle.wasm_encoder_code.specs.Body.{run_bytes}
use Rattle.wasm_encoder_code.specs.Locals.{run_view}
use Rattle.wasm_encoder_code.proofs.JoinedRuns.{runs_joined}
use Rattle.wasm_encoder_code.proofs.laws.bodies.Goals as goal

pub returns : goal.returns
returns c pairs is runs =
    ap (λ bytes. bytes ++ expr_bytes is) (counted_view run_view run_bytes pairs ∙ ap (counted run_bytes) (sym (runs_joined (map run_view pairs) runs)))
