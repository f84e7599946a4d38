-- Branch hints (WebAssembly branch hinting): for each function a list of hints.
use Rattle.std.specs.Prelude.{ℕ, List, [], ◌∷◌, ◌++◌, codes}
use Rattle.wasm_encoder_base.specs.Bytes.{counted}
use Rattle.wasm_encoder_base.specs.Leb.{uleb}
use Rattle.wasm_encoder_base.specs.Lists.{Listed, list_bytes}
use Rattle.wasm_encoder_custom.specs.Custom.{Custom, custom}
use Rattle.wasm_encoder_custom.specs.declared.branch_hints.BranchHint.{BranchHint}

-- the section of a list of functions with their hints
abbrev pub hints_section : Listed → Custom
hints_section functions = custom (codes "metadata.code.branch_hint") (list_bytes functions)

-- a hint: how far from the start of the body its instruction is, the length 1 of the value, the value
abbrev pub hint_bytes : BranchHint → List ℕ
hint_bytes hint = uleb hint.branch_func_offset ++ 0x01 ∷ [] ++ uleb hint.branch_hint_value

pub record FunctionHints : Type 0 where
  pub function_index : ℕ
  pub hints : List BranchHint

abbrev pub function_hints_bytes : FunctionHints → List ℕ
function_hints_bytes f = uleb f.function_index ++ counted hint_bytes f.hints
