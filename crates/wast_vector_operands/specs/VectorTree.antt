-- Constants of 128 bits and their shapes, as they are written: abstract syntax trees (WebAssembly 3.0, 6.5, vector instructions).
use Rattle.std.specs.Prelude.{ℕ, ℤ, List}
use Rattle.std.specs.Int.{Width}

-- constants of 128 bits: lanes of a width, integers by their numbers, floats as they are written
pub data Vector : Type 0 where
  Integers : Width → List ℤ → Vector
  Floats : Width → List (List ℕ) → Vector

-- the shapes of such constants (6.5, vector instructions)
pub data Shape : Type 0 where
  I8x16 : Shape
  I16x8 : Shape
  I32x4 : Shape
  I64x2 : Shape
  F32x4 : Shape
  F64x2 : Shape
