-- Names as bytes.
use Rattle.std.specs.Prelude.{ℕ, List, map, option_map}
use Rattle.wast_grammar.specs.Tokens.{Name}
use Rattle.wasm_layout.specs.AbstractModule.{Naming, InnerNaming, NameMaps, AbstractModule}
use Rattle.wast_meant.specs.NamesMeant.{GivenName, Identifier, Bytes}

-- an identifier is the bytes of its name
abbrev pub bytes_of : GivenName Name → List ℕ
bytes_of (Identifier n) = n.0
bytes_of (Bytes bytes) = bytes

module _ {A B : Type 0} (f : A → B) where
  abbrev pub naming_with : Naming A → Naming B
  naming_with n = record { index = n.index; name = f n.name }

  abbrev pub inner_with : InnerNaming A → InnerNaming B
  inner_with n = record { index = n.index; names = map naming_with n.names }

  abbrev pub maps_with : NameMaps A → NameMaps B
  maps_with names = record {
    module_name = option_map f names.module_name;
    items = λ space. map naming_with (names.items space);
    inner = λ space. map inner_with (names.inner space);
  }

  -- a module with other names
  abbrev pub module_with : AbstractModule A → AbstractModule B
  module_with m = record {
    types = m.types;
    imports = m.imports;
    functions = m.functions;
    tables = m.tables;
    memories = m.memories;
    tags = m.tags;
    globals = m.globals;
    exports = m.exports;
    start = m.start;
    elements = m.elements;
    datas = m.datas;
    names = maps_with m.names;
    hints = m.hints;
    customs = m.customs;
  }

abbrev pub in_bytes : AbstractModule (GivenName Name) → AbstractModule (List ℕ)
in_bytes m = module_with bytes_of m
