-- Locals as the encoder's calls take them.
use Rattle.std.specs.Prelude.{ℕ, zero, suc, ◌<◌, ◌^◌, true, false, List, [], ◌∷◌, length}
use Rattle.std.specs.List.{AllByRecursion}
use Rattle.wasm_encoder_base.specs.Types as binary
use Rattle.wasm_encoder_base.specs.Views.{val_view}
use Rattle.wasm_encoder_base.specs.declared.types.ValType.{ValType}
use Rattle.wasm_encoder_code.specs.Body.{Run, run_bytes, same_type, joined}

-- a number of locals and their type
abbrev pub run_view : ℕ × ValType → Run
run_view p = record { count = p.0; val_type = val_view p.1 }

abbrev pub pair_bytes : ℕ × ValType → List ℕ
pair_bytes p = run_bytes (run_view p)

-- the count of the runs, and that of each of them, is at most 4294967295
pub record LocalsFit (locals : List binary.ValType) : Type 0 where
  pub runs : length (joined locals) < 2 ^ 32
  pub counts : AllByRecursion (λ r. r.count < 2 ^ 32) (joined locals)

-- how many locals at the front are of the type
abbrev pub leading : binary.ValType → List binary.ValType → ℕ
leading t [] = zero
leading t (u ∷ us) = elim (same_type t u) [ true ↦ suc (leading t us) | false ↦ zero ]
