-- The linking section (tool conventions of WebAssembly): a version, and subsections, of which a symbol table is one.
-- Which parts of a symbol there are is said by its flags, and left to who writes it.
use Rattle.std.specs.Prelude.{ℕ, List, [], ◌∷◌, ◌++◌, codes}
use Rattle.wasm_encoder_base.specs.Bytes.{sized}
use Rattle.wasm_encoder_base.specs.Leb.{uleb}
use Rattle.wasm_encoder_custom.specs.Custom.{Custom, custom, subsection}
use Rattle.wasm_encoder_custom.specs.declared.symbols.DataSymbolDefinition.{DataSymbolDefinition}

-- the section by its data, which is the version and the subsections
abbrev pub linking_section : List ℕ → Custom
linking_section contents = custom (codes "linking") contents

abbrev pub version : List ℕ
version = 2 ∷ []

-- the symbol table, by its symbols' count and bytes; the name of the architecture
abbrev pub symbol_table_bytes : List ℕ → List ℕ
symbol_table_bytes symbols = subsection 8 symbols

abbrev pub target_arch_bytes : List ℕ → List ℕ
target_arch_bytes name = subsection 9 (sized name)

-- kinds of symbols that an index names
pub data IndexedSymbol : Type 0 where
  FunctionSymbol : IndexedSymbol
  GlobalSymbol : IndexedSymbol
  TableSymbol : IndexedSymbol

abbrev pub kind_of : IndexedSymbol → ℕ
kind_of FunctionSymbol = 0
kind_of GlobalSymbol = 2
kind_of TableSymbol = 5

-- a symbol: the kind, the flags, the index, and the name where it is given
abbrev pub symbol_bytes : IndexedSymbol → ℕ → ℕ → List ℕ → List ℕ
symbol_bytes symbol flags index name = kind_of symbol ∷ uleb flags ++ uleb index ++ name

-- where a data symbol lies: the segment, the offset in it, the size
abbrev pub definition_bytes : DataSymbolDefinition → List ℕ
definition_bytes d = uleb d.index ++ uleb d.offset ++ uleb d.size

-- a data symbol: the kind 1, the flags, the name, and the definition where it is given
abbrev pub data_symbol_bytes : ℕ → List ℕ → List ℕ → List ℕ
data_symbol_bytes flags name definition = 1 ∷ uleb flags ++ sized name ++ definition
