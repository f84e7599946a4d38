-- What the calls of a sink of instructions leave.
use denote.RattleType.{RattleType}
use Rattle.std.specs.Prelude.{ℕ, ◌≡◌, List, ◌++◌, Result, IfOk, OnOk, IsErrOf}
use Rattle.std.specs.Borrow.{RestsIfErr, Fml, u8}
use Rattle.std.specs.contracts.vec.Vec as vec
use Rattle.std.specs.contracts.alloc.Global as global
use Rattle.std.specs.contracts.impls.GlobalAllocator.TheImpl.{ghosts}
use Rattle.wasm_encoder_base.specs.EncodeError.{EncodeError}
use Rattle.wasm_encoder_base.specs.EncodeError.TheVariants.{TooLarge}
use Rattle.wasm_encoder_code.specs.declared.sink.InstructionSink.{InstructionSink}

-- a vector of bytes, as the logic names it
abbrev pub bytes_row : RattleType
bytes_row = vec.the_row u8 global.the_row ghosts

-- the bytes in the sink's vector
abbrev pub bytes_in : InstructionSink → List ℕ
bytes_in s = s.sink.now.items

-- A sink whose call is refused is as it was.
abbrev pub RestsUnchanged : InstructionSink → Result InstructionSink EncodeError → Fml
RestsUnchanged s r = RestsIfErr bytes_row s.sink (λ x. x.sink.ghost_name) r (λ n. n.items ≡ s.sink.now.items)

-- The bytes stand behind what the vector had before, and the answer is a sink of the same vector; every count in them fits, and the
-- call was refused as too large only where one does not fit.
pub record Appends (bytes : List ℕ) (fits : Type 0) (before : InstructionSink) (result : Result InstructionSink EncodeError) : Type 0 where
  pub ok : IfOk result (λ s. bytes_in s ≡ bytes_in before ++ bytes)
  pub same_vector : IfOk result (λ s. s.sink.ghost_name ≡ before.sink.ghost_name)
  pub fit : OnOk result fits
  pub too_large : IsErrOf result TooLarge → fits → ⊥

-- An expression is made of the bytes, and every count in them fits; it was refused as too large only where one does not fit.
pub record IsMade (bytes : List ℕ) (fits : Type 0) (result : Result (List ℕ) EncodeError) : Type 0 where
  pub ok : IfOk result (λ expression. expression ≡ bytes)
  pub fit : OnOk result fits
  pub too_large : IsErrOf result TooLarge → fits → ⊥
