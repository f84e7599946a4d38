-- The syntax of values of data segments (WebAssembly 3.0, 6.6, data segments, and the proposal of numeric values in data segments).
use Rattle.std.specs.Prelude.{ℕ, ◌*◌, true, false, List, [], ◌∷◌, map, length, codes}
use Rattle.std.specs.Int.{Width, w8, w16, w32, w64, byte_len}
use Rattle.std.specs.List.{flat_map}
use Rattle.wast_parser.specs.Look.{Test, On, OneOf, AWord, join, faults, integer_starts, string_starts}
use Rattle.wast_parser.specs.Grammar.{Syntax, among, next, seen, many, either, paren, string}
use Rattle.wast_vector_operands.specs.VectorSyntax.{float_starts, shape_starts, signed_literal, float_literal, vector}
use Rattle.wast_vector_operands.specs.VectorViews.{lane_bytes}
use Rattle.wast_data.specs.DataTree.{DataVal, Text, Integral, Float, of_vectors}

-- the types of numbers in data
pub data NumberType : Type 0 where
  I8 : NumberType
  I16 : NumberType
  I32 : NumberType
  I64 : NumberType
  F32 : NumberType
  F64 : NumberType
  V128 : NumberType

abbrev pub number_word : NumberType → List ℕ
number_word I8 = codes "i8"
number_word I16 = codes "i16"
number_word I32 = codes "i32"
number_word I64 = codes "i64"
number_word F32 = codes "f32"
number_word F64 = codes "f64"
number_word V128 = codes "v128"

abbrev pub number_types : List NumberType
number_types = I8 ∷ I16 ∷ I32 ∷ I64 ∷ F32 ∷ F64 ∷ V128 ∷ []

-- what they begin with
abbrev pub word_starts : List Test
word_starts = On false AWord (OneOf (map number_word number_types) []) ∷ []

abbrev pub group_starts : List Test
group_starts = On true AWord (OneOf (map number_word number_types) []) ∷ []

abbrev pub value_starts : List Test
value_starts = join string_starts group_starts

-- what may stand behind a type
abbrev pub number_starts : List Test
number_starts = join float_starts shape_starts

abbrev pub number_stops : List Test
number_stops = join (faults number_starts) number_starts

module _ {N P : Type 0} where
  -- integers of a width: the bytes of each, the low byte first
  abbrev pub integers : Width → Syntax N P DataVal
  integers w = seen (λ ns. Integral (flat_map (lane_bytes w) ns)) (many integer_starts (signed_literal (8 * byte_len w)))

  -- floats of a width
  abbrev pub floats : Width → Syntax N P DataVal
  floats w = seen (λ fs. Float (length fs * byte_len w)) (many float_starts float_literal)

  -- vectors, each behind its shape
  abbrev pub vectors : Syntax N P DataVal
  vectors = seen of_vectors (many shape_starts vector)

  abbrev pub numbers_of : NumberType → Syntax N P DataVal
  numbers_of I8 = integers w8
  numbers_of I16 = integers w16
  numbers_of I32 = integers w32
  numbers_of I64 = integers w64
  numbers_of F32 = floats w32
  numbers_of F64 = floats w64
  numbers_of V128 = vectors

  -- (type number*)
  abbrev pub numbers_body : Syntax N P DataVal
  numbers_body = seen (λ x. x.1) (next (among number_word number_types []) (λ t. numbers_of t.0) number_starts true number_stops)

  abbrev pub numbers : Syntax N P DataVal
  numbers = paren numbers_body

  -- a string, or numbers
  abbrev pub value : Syntax N P DataVal
  value = either string_starts (seen Text string) numbers
