-- What a resumed continuation does, in bytes.
use Rattle.std.specs.Prelude.{ℕ, List, ◌∷◌, ◌++◌}
use Rattle.wasm_encoder_base.specs.Leb.{uleb}
use Rattle.wasm_encoder_instr.specs.declared.handle.Handle.{Handle}
use Rattle.wasm_encoder_instr.specs.declared.handle.Handle.TheVariants.{OnLabel, OnSwitch}

-- a byte for the kind, then the indices
abbrev pub handle_bytes : Handle → List ℕ
handle_bytes (OnLabel tag label) = 0x00 ∷ (uleb tag ++ uleb label)
handle_bytes (OnSwitch tag) = 0x01 ∷ uleb tag
