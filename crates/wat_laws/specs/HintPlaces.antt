-- Where a branch hint and its instruction stand in a binary (branch hinting; WebAssembly 3.0, 5.5.3 and 5.5.13).
use Rattle.std.specs.Prelude.{ℕ, ◌≡◌, ◌+◌, List, [], ◌∷◌, ◌++◌, length, drop, slice_get, Some}
use Rattle.std.specs.List.{flat_map}
use Rattle.wasm_encoder_base.specs.Bytes.{sized}
use Rattle.wasm_encoder_base.specs.Instr.{Instr, instr_bytes}
use Rattle.wasm_encoder_base.specs.Leb.{uleb}
use Rattle.wasm_encoder_base.specs.Lists.{listed}
use Rattle.wasm_encoder_code.specs.Body.{body_bytes, place_of}
use Rattle.wasm_encoder_custom.specs.Custom.{custom_body}
use Rattle.wasm_encoder_custom.specs.BranchHints as binary
use Rattle.wasm_encoder_custom.specs.BranchHints.{hint_bytes, function_hints_bytes, hints_section}
use Rattle.wasm_encoder_custom.specs.declared.branch_hints.BranchHint.{BranchHint}
use Rattle.wasm_encoder.specs.Module.{header}
use Rattle.wasm_layout.specs.Section.{SectionKind, Hints, Codes}
use Rattle.wasm_layout.specs.AbstractModule.{AbstractModule, Function, Hint, FunctionHints}
use Rattle.wasm_layout.specs.Layout.{Piece, Known, section, piece_bytes, pieces, contents_of, imported_count}
use Rattle.wasm_layout.specs.Laws.{bodies_bytes}
use Rattle.wasm_layout.specs.Lays.{Lays}

-- The module has a hint at instruction k of function f, with the value v.
pub record HasHint (m : AbstractModule (List ℕ)) (f k v : ℕ) : Type 0 where
  pub before : List FunctionHints
  pub after : List FunctionHints
  pub front : List Hint
  pub back : List Hint
  pub is : m.hints ≡ before ++ (record { function = f; hints = front ++ (record { index = k; value = v } ∷ back) } ∷ after)

-- The module's section of this kind stands in the bytes b: behind the header and whole pieces, and before whole pieces.
pub record SectionStands (b : List ℕ) (m : AbstractModule (List ℕ)) (kind : SectionKind) : Type 0 where
  pub before : List Piece
  pub after : List Piece
  pub of_module : pieces m ≡ before ++ (Known (section m kind) ∷ after)
  pub front : List ℕ
  pub is_front : front ≡ header ++ flat_map piece_bytes before
  pub bytes : b ≡ front ++ (piece_bytes (Known (section m kind)) ++ flat_map piece_bytes after)

-- The section of hints of the module, in the bytes b, lists function f with a hint at this distance from the start of its body.
pub record ListsHint (b : List ℕ) (m : AbstractModule (List ℕ)) (f distance v : ℕ) : Type 0 where
  pub stands : SectionStands b m Hints
  -- which functions the section lists beside f, and the hints of f around this one
  pub others : List binary.FunctionHints
  pub more : List binary.FunctionHints
  pub earlier : List BranchHint
  pub later : List BranchHint
  pub is_section : 0x00 ∷ sized (custom_body (hints_section (listed function_hints_bytes
      (others ++ (record { function_index = f; hints = earlier ++ (record { branch_func_offset = distance; branch_hint_value = v } ∷ later) } ∷ more)))))
      ≡ piece_bytes (Known (section m Hints))
  -- the hint in bytes: the distance, 01, the value
  pub in_bytes : hint_bytes (record { branch_func_offset = distance; branch_hint_value = v }) ≡ uleb distance ++ (0x01 ∷ v ∷ [])

-- The body of function f of the module starts at this place of the bytes b.
pub record BodyStarts (b : List ℕ) (m : AbstractModule (List ℕ)) (f : ℕ) (function : Function) (start : ℕ) : Type 0 where
  -- the functions with a body that are before f, which with those that are imported are as many as its number, and those behind it
  pub earlier : List Function
  pub later : List Function
  pub functions : m.functions ≡ earlier ++ (function ∷ later)
  pub is_numbered : imported_count m + length earlier ≡ f
  -- What stands in the section of codes before the body: the number and the size of that, the count, the bodies before it, each behind
  -- its size; and its own size.
  pub lead : List ℕ
  pub is_lead : lead ≡ 0x0A ∷ (uleb (length (contents_of m Codes)) ++ (uleb (length m.functions) ++ (bodies_bytes earlier ++ uleb (length (body_bytes function.body)))))
  pub is_section : lead ++ (body_bytes function.body ++ bodies_bytes later) ≡ piece_bytes (Known (section m Codes))
  pub stands : SectionStands b m Codes
  pub is_start : length stands.front + length lead ≡ start

-- The hint in the binary: the section of hints lists it with the distance of its instruction, and so far from where the body of function
-- f starts that instruction begins.
pub record HintPlaced (b : List ℕ) (m : AbstractModule (List ℕ)) (f k v : ℕ) : Type 0 where
  pub function : Function
  pub instruction : Instr
  pub is_instruction : slice_get function.body.instructions k ≡ Some instruction
  pub lists : ListsHint b m f (place_of function.body k) v
  pub start : ℕ
  pub starts : BodyStarts b m f function start
  pub rest : List ℕ
  pub begins : drop (start + place_of function.body k) b ≡ instr_bytes instruction ++ rest

abbrev pub HintPlaces : Type 0
HintPlaces = (b : List ℕ) (m : AbstractModule (List ℕ)) (f k v : ℕ) → Lays b m → HasHint m f k v → HintPlaced b m f k v
