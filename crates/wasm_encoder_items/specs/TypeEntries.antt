-- Entries of the type section: a type, or a group of types that may name each other (WebAssembly 3.0, 5.3 and 5.5.4).
use Rattle.std.specs.Prelude.{ℕ, true, List, ◌∷◌, None}
use Rattle.wasm_encoder_base.specs.Bytes.{counted}
use Rattle.wasm_encoder_base.specs.Types.{CompositeType, SubType, sub_bytes}

pub data TypeEntry : Type 0 where
  OneType : SubType → TypeEntry
  TypeGroup : List SubType → TypeEntry

-- a type that names no supertype and has no subtypes
abbrev pub plain : CompositeType → TypeEntry
plain c = OneType (record { is_final = true; supertype = None; composite_type = c })

abbrev pub entry_bytes : TypeEntry → List ℕ
entry_bytes (OneType t) = sub_bytes t
entry_bytes (TypeGroup types) = 0x4E ∷ counted sub_bytes types
