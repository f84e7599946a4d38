-- Lists that are encoded item by item, and the sections that they make (WebAssembly 3.0, 5.1.3 and 5.5.2).
use Rattle.std.specs.Prelude.{ℕ, ◌+◌, ◌<◌, ◌^◌, List, [], ◌++◌, length}
use Rattle.std.specs.List.{flat_map}
use Rattle.wasm_encoder_bytes.specs.Leb.{uleb}
use Rattle.wasm_encoder_bytes.specs.Bytes.{sized}

-- a list as it is built: how many items there are, and their bytes, one after another
pub record Listed : Type 0 where
  pub count : ℕ
  pub bytes : List ℕ

-- the list of these items
abbrev pub listed : {A : Type 0} → (A → List ℕ) → List A → Listed
listed spell items = record { count = length items; bytes = flat_map spell items }

abbrev pub no_items : Listed
no_items = record { count = 0; bytes = [] }

-- with one more item, of these bytes
abbrev pub with_item : Listed → List ℕ → Listed
with_item list item = record { count = list.count + 1; bytes = list.bytes ++ item }

-- with these items behind its own
abbrev pub with_items : {A : Type 0} → (A → List ℕ) → Listed → List A → Listed
with_items spell list items = record { count = list.count + length items; bytes = list.bytes ++ flat_map spell items }

-- the count of one more item is a number of 32 bits, as the binary format asks
abbrev pub HasRoom : Listed → Type 0
HasRoom list = list.count + 1 < 2 ^ 32

-- the count, then the items
abbrev pub list_bytes : Listed → List ℕ
list_bytes list = uleb list.count ++ list.bytes

-- what follows the number of a section that is a list: its size, the count, the items
abbrev pub list_section : Listed → List ℕ
list_section list = sized (list_bytes list)

-- the same, by the items and what each is in bytes
abbrev pub section_bytes : {A : Type 0} → (A → List ℕ) → List A → List ℕ
section_bytes spell items = list_section (listed spell items)
