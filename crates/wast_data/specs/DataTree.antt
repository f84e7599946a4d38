-- Values of data segments (WebAssembly 3.0, 6.6, data segments), and their bytes. No names or places stand in them.
use Rattle.std.specs.Prelude.{ℕ, ◌*◌, List, [], ◌∷◌, ◌++◌, length, Option, Some, None}
use Rattle.wast_parser.specs.Spelling.{◌>>=◌}
use Rattle.wast_vector_operands.specs.VectorTree.{Vector}
use Rattle.wast_vector_operands.specs.VectorViews.{vector_bytes}

pub data DataVal : Type 0 where
  -- a string
  Text : (bytes : List ℕ) → DataVal
  -- integers, or vectors of integers
  Integral : (bytes : List ℕ) → DataVal
  -- floats, or vectors of which one has lanes that are floats: how many bytes they are
  Float : (count : ℕ) → DataVal

-- its bytes, where no floats are in it
abbrev pub bytes_of : DataVal → Option (List ℕ)
bytes_of (Text bytes) = Some bytes
bytes_of (Integral bytes) = Some bytes
bytes_of (Float count) = None

-- how many bytes it is
abbrev pub byte_count : DataVal → ℕ
byte_count (Text bytes) = length bytes
byte_count (Integral bytes) = length bytes
byte_count (Float count) = count

-- the bytes of vectors, one after the other, where all have lanes that are integers
abbrev pub vectors_bytes : List Vector → Option (List ℕ)
vectors_bytes [] = Some []
vectors_bytes (v ∷ vs) = vector_bytes v >>= λ bytes. vectors_bytes vs >>= λ more. Some (bytes ++ more)

-- vectors as a value; each is 16 bytes
abbrev pub of_vectors : List Vector → DataVal
of_vectors vs = elim (vectors_bytes vs) [ Some bytes ↦ Integral bytes | None ↦ Float (length vs * 16) ]
