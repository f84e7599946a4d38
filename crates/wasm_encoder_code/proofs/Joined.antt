-- Runs as the code holds them.
use Rattle.std.proofs.Common.{ℕ, ◌≡◌, List, length, map, sym, ap, ◌∙◌}
use Rattle.std.proofs.lemmas.List.{length-map}
use Rattle.wasm_encoder_base.specs.Bytes.{counted}
use Rattle.wasm_encoder_base.specs.Types as binary
use Rattle.wasm_encoder_base.specs.declared.types.ValType.{ValType}
use Rattle.wasm_encoder_base.proofs.Mapped.{counted_view}
use Rattle.wasm_encoder_code.specs.Body.{run_bytes, joined}
use Rattle.wasm_encoder_code.specs.Locals.{run_view, pair_bytes}

pub runs_bytes : (pairs : List (ℕ × ValType)) (types : List binary.ValType) → map run_view pairs ≡ joined types → counted pair_bytes pairs ≡ counted run_bytes (joined types)
runs_bytes pairs types e = counted_view run_view run_bytes pairs ∙ ap (counted run_bytes) e

pub runs_length : (pairs : List (ℕ × ValType)) (types : List binary.ValType) → map run_view pairs ≡ joined types → length pairs ≡ length (joined types)
runs_length pairs types e = sym (length-map pairs run_view) ∙ ap length e
