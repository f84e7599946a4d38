-- Floats as contracts see them: by their bits.
use Rattle.std.specs.Prelude.{ℕ}
use Rattle.wasm_encoder_bytes.specs.declared.ieee.Ieee32.{Ieee32}
use Rattle.wasm_encoder_bytes.specs.declared.ieee.Ieee64.{Ieee64}

abbrev pub ieee32_bits : Ieee32 → ℕ
ieee32_bits float = float.bits

abbrev pub ieee64_bits : Ieee64 → ℕ
ieee64_bits float = float.bits
