-- Catch clauses (WebAssembly 3.0, 5.4).
use Rattle.wasm_encoder_base.specs.Instr as binary
use Rattle.wasm_encoder_instr.specs.declared.catch.Catch.{Catch}
use Rattle.wasm_encoder_instr.specs.declared.catch.Catch.TheVariants.{One, OneRef, All, AllRef}

-- the same clause
abbrev pub catch_view : Catch → binary.Catch
catch_view (One tag label) = binary.CatchTag tag label
catch_view (OneRef tag label) = binary.CatchTagRef tag label
catch_view (All label) = binary.CatchAll label
catch_view (AllRef label) = binary.CatchAllRef label
