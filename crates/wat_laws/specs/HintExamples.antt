-- A hint and its place, by hand.
use Rattle.std.specs.Prelude.{◌≡◌, ◌+◌, [], ◌∷◌, ◌++◌, drop, take, codes}
use Rattle.wasm_encoder_code.specs.Body.{place_of}
use Rattle.wasm_layout.specs.Examples.{one, if_block, end, hinted}
use Rattle.wasm_layout.specs.Layout.{layout}
use Rattle.wasm_layout.specs.Lays.{Lays}
use Rattle.wat_laws.specs.HintPlaces.{HasHint}

-- (module (func $f i32.const 1 (@metadata.code.branch_hint "\01") if end) (@custom "x" (before func) "ab")): its hint is that of instruction
-- 1 of function 0, and its binary is this. The section of hints stands behind 24 bytes and lists one function, 0, and of it one hint: the
-- distance 3, 01, and the value 1. The body starts behind 62 bytes, and the byte at the distance 3 is that of `if`.
pub record HintExample : Type 0 where
  pub has : HasHint hinted 0 1 1
  pub laid : Lays (layout hinted) hinted
  pub distance : place_of (record { locals = []; instructions = one ∷ if_block ∷ end ∷ [] }) 1 ≡ 3
  pub listed : take 34 (drop 24 (layout hinted)) ≡ (0x00 ∷ 0x20 ∷ 0x19 ∷ []) ++ codes "metadata.code.branch_hint" ++ (0x01 ∷ 0x00 ∷ 0x01 ∷ 0x03 ∷ 0x01 ∷ 0x01 ∷ [])
  pub body : take 7 (drop 62 (layout hinted)) ≡ 0x00 ∷ 0x41 ∷ 0x01 ∷ 0x04 ∷ 0x40 ∷ 0x0B ∷ 0x0B ∷ []
  pub begins : take 1 (drop (62 + 3) (layout hinted)) ≡ 0x04 ∷ []
