-- The laws that the crate's law functions prove.
use Rattle.std.specs.Prelude.{ℕ, ◌≡◌, List, ◌++◌, drop, map}
use Rattle.std.specs.List.{AllByRecursion}
use Rattle.wasm_encoder_base.specs.Bytes.{counted}
use Rattle.wasm_encoder_base.specs.Balanced.{IsBalanced}
use Rattle.wasm_encoder_base.specs.Instr.{Instr, IsInstr, expr_bytes}
use Rattle.wasm_encoder_base.specs.Types.{ValType}
use Rattle.wasm_encoder_base.specs.declared.types.ValType as declared
use Rattle.wasm_encoder_code.specs.Locals.{run_view, pair_bytes}
use Rattle.wasm_encoder_code.specs.Body.{Run, AreRuns, joined, apart, Body, IsBody, body_bytes, place_of}

-- b is the spelling of x, which meets P
pub record IsSpelling {A : Type 0} (P : A → Type 0) (spell : A → List ℕ) (b : List ℕ) (x : A) : Type 0 where
  pub meets : P x
  pub bytes : b ≡ spell x

-- Each value has one byte string, and one byte string is that of at most one value.
pub record IsOneToOne {A : Type 0} (P : A → Type 0) (spell : A → List ℕ) : Type 0 where
  pub one_string : (x : A) (b c : List ℕ) → IsSpelling P spell b x → IsSpelling P spell c x → b ≡ c
  pub one_value : (b : List ℕ) (x y : A) → IsSpelling P spell b x → IsSpelling P spell b y → x ≡ y

abbrev pub OneBody : Type 0
OneBody = IsOneToOne IsBody body_bytes

-- the instructions of a constant expression; the end closes no block opened in them
pub record IsExpression (is : List Instr) : Type 0 where
  pub instructions : AllByRecursion IsInstr is
  pub balanced : IsBalanced is 0

abbrev pub OneExpression : Type 0
OneExpression = IsOneToOne IsExpression expr_bytes

-- At the place of instruction k the bytes of it and of those after it begin, up to the end.
abbrev pub PlaceBegins : Type 0
PlaceBegins = (b : Body) (k : ℕ) → drop (place_of b k) (body_bytes b) ≡ expr_bytes (drop k b.instructions)

-- Pairs of a count and a type, as a body is made of them, and an expression are the body of the locals that the pairs stand for, where
-- the pairs are runs.
abbrev pub PairsAreBody : Type 0
PairsAreBody = (pairs : List (ℕ × declared.ValType)) (is : List Instr) → AreRuns (map run_view pairs) →
    counted pair_bytes pairs ++ expr_bytes is ≡ body_bytes (record { locals = apart (map run_view pairs); instructions = is })

-- Joined locals are runs with positive counts, neighbours of different types, which stand for these locals.
pub record IsJoined (ts : List ValType) : Type 0 where
  pub runs : AreRuns (joined ts)
  pub locals : apart (joined ts) ≡ ts

abbrev pub LocalsJoined : Type 0
LocalsJoined = (ts : List ValType) → IsJoined ts

-- And every such list of runs is had by joining the locals that it stands for.
abbrev pub RunsJoined : Type 0
RunsJoined = (rs : List Run) → AreRuns rs → joined (apart rs) ≡ rs
