-- The syntax of literals, of lanes and of constants of 128 bits (WebAssembly 3.0, 6.5).
use Rattle.std.specs.Prelude.{ℕ, ℤ, ◌*◌, ◌-◌, ◌^◌, false, List, [], ◌∷◌, map, Some, None, codes}
use Rattle.std.specs.Int.{Width, w8, w16, w32, w64, byte_len}
use Rattle.wast_parser.specs.Look.{Test, On, OneOf, Any, AnInteger, AFloat, AWord}
use Rattle.wast_parser.specs.Grammar.{Syntax, among, float, next, seen, times}
use Rattle.wast_parser.specs.Integers.{number_in, unsigned, signed}
use Rattle.wast_vector_operands.specs.VectorTree.{Vector, Integers, Floats, Shape, I8x16, I16x8, I32x4, I64x2, F32x4, F64x2}

-- WORDS
abbrev pub shape_word : Shape → List ℕ
shape_word I8x16 = codes "i8x16"
shape_word I16x8 = codes "i16x8"
shape_word I32x4 = codes "i32x4"
shape_word I64x2 = codes "i64x2"
shape_word F32x4 = codes "f32x4"
shape_word F64x2 = codes "f64x2"

abbrev pub shapes : List Shape
shapes = I8x16 ∷ I16x8 ∷ I32x4 ∷ I64x2 ∷ F32x4 ∷ F64x2 ∷ []

-- WHAT THEY BEGIN WITH
abbrev pub float_starts : List Test
float_starts = On false AFloat Any ∷ On false AnInteger Any ∷ []

abbrev pub shape_starts : List Test
shape_starts = On false AWord (OneOf (map shape_word shapes) []) ∷ []

module _ {N P : Type 0} where
  -- LITERALS (6.3.1, 6.3.2)
  -- an integer of so many bits, which means a signed number
  abbrev pub signed_literal : ℕ → Syntax N P ℤ
  signed_literal bits = seen (λ n. n.0) (number_in (2 ^ bits - 1) (Some (2 ^ (bits - 1))) (signed (2 ^ (bits - 1))))

  -- what may stand for a float, as it is written
  abbrev pub float_literal : Syntax N P (List ℕ)
  float_literal = seen (λ x. x.0) float

  -- the number of a lane
  abbrev pub lane : Syntax N P ℕ
  lane = seen (λ n. n.0) (number_in (2 ^ 8 - 1) None unsigned)

  -- sixteen of them
  abbrev pub shuffle : Syntax N P (List ℕ)
  shuffle = times 16 lane

  -- VECTORS: a shape, and as many literals
  abbrev pub integers : Width → ℕ → Syntax N P Vector
  integers w n = seen (Integers w) (times n (signed_literal (8 * byte_len w)))

  abbrev pub floats : Width → ℕ → Syntax N P Vector
  floats w n = seen (Floats w) (times n float_literal)

  abbrev pub lanes_of : Shape → Syntax N P Vector
  lanes_of I8x16 = integers w8 16
  lanes_of I16x8 = integers w16 8
  lanes_of I32x4 = integers w32 4
  lanes_of I64x2 = integers w64 2
  lanes_of F32x4 = floats w32 4
  lanes_of F64x2 = floats w64 2

  abbrev pub shape : Syntax N P (Shape × P)
  shape = among shape_word shapes []

  abbrev pub vector : Syntax N P Vector
  vector = seen (λ x. x.1) (next shape (λ s. lanes_of s.0) float_starts false [])
