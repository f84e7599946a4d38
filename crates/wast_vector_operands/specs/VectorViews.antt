-- What the grammar sees of the code's floats and vectors, and the bytes of vectors.
use Rattle.std.specs.Prelude.{ℕ, ℤ, List, [], ◌∷◌, map, Option, Some, None}
use Rattle.std.specs.List.{flat_map}
use Rattle.std.specs.Int.{Width, w8, w16, w32, w64, to_le_bytes, cast_unsigned}
use Rattle.wast_vector_operands.specs.VectorTree as spec
use Rattle.wast_vector_operands.specs.declared.vector.FloatLit.{FloatLit}
use Rattle.wast_vector_operands.specs.declared.vector.Shape.{Shape}
use Rattle.wast_vector_operands.specs.declared.vector.Shape.TheVariants as shapes
use Rattle.wast_vector_operands.specs.declared.vector.V128Const.{V128Const}
use Rattle.wast_vector_operands.specs.declared.vector.V128Const.TheVariants as vectors

abbrev pub shape_tree : Shape → spec.Shape
shape_tree shapes.I8x16 = spec.I8x16
shape_tree shapes.I16x8 = spec.I16x8
shape_tree shapes.I32x4 = spec.I32x4
shape_tree shapes.I64x2 = spec.I64x2
shape_tree shapes.F32x4 = spec.F32x4
shape_tree shapes.F64x2 = spec.F64x2

abbrev pub float_tree : FloatLit → List ℕ
float_tree f = f.text.now

abbrev pub vector_tree : V128Const → spec.Vector
vector_tree (vectors.I8x16 lanes) = spec.Integers w8 lanes
vector_tree (vectors.I16x8 lanes) = spec.Integers w16 lanes
vector_tree (vectors.I32x4 lanes) = spec.Integers w32 lanes
vector_tree (vectors.I64x2 lanes) = spec.Integers w64 lanes
vector_tree (vectors.F32x4 a b c d) = spec.Floats w32 (map float_tree (a ∷ b ∷ c ∷ d ∷ []))
vector_tree (vectors.F64x2 a b) = spec.Floats w64 (map float_tree (a ∷ b ∷ []))

-- the bytes of a lane of a width, the low byte first; a number below 0 is that of its two's complement
abbrev pub lane_bytes : Width → ℤ → List ℕ
lane_bytes w n = to_le_bytes w (cast_unsigned w n)

-- the bytes of a vector of integers, lane by lane
abbrev pub vector_bytes : spec.Vector → Option (List ℕ)
vector_bytes (spec.Integers w lanes) = Some (flat_map (lane_bytes w) lanes)
vector_bytes (spec.Floats w lanes) = None
