-- A module that is read.
use Rattle.std.proofs.Common.{refl, arith}
use Rattle.wasm_encoder_base.specs.Leb.{uleb, sleb, leb, digits}
use Rattle.wasm_encoder_base.specs.Table.{entry_at, table}
use Rattle.wasm_encoder_custom.specs.Names.{Space, Functions, Types, Tables, Memories, Globals, Elements, DataSegments, Tags}
use Rattle.wasm_layout.specs.IsModule.{IsMap}
use Rattle.wasm_layout.specs.Examples.{called_f, hinted}
use Rattle.wasm_layout.specs.Layout.{layout}
use Rattle.wasm_layout.specs.Lays.{Reads}

maps : (space : Space) → IsMap (called_f space)
maps Functions = (omega arith, omega arith, tt)
maps Types = tt
maps Tables = tt
maps Memories = tt
maps Globals = tt
maps Elements = tt
maps DataSegments = tt
maps Tags = tt

pub read : Reads (layout hinted) hinted
unfolding uleb sleb leb digits entry_at table
read = record {
  lays = record {
    is_module = record {
      types = (record { supertype = tt; composite_type = (tt, tt) }, tt);
      imports = tt;
      functions = (
        record {
          type_index = omega arith;
          locals = tt;
          body = record { instructions = (record { listed = refl; ranges = (omega arith, omega arith) }, (record { listed = refl; ranges = tt }, (record { listed = refl; ranges = tt }, tt))) };
        },
        tt,
      );
      tables = tt;
      memories = tt;
      tags = tt;
      globals = tt;
      exports = tt;
      start = tt;
      elements = tt;
      datas = tt;
      names = record { items = maps; inner = λ space. record { indices = tt; each = tt } };
      hint_functions = (omega arith, omega arith, tt);
      hints = (record { function = _; is_at = refl; is_some = omega arith; indices = (omega arith, omega arith, tt); each = (record { index = omega arith; value = omega arith }, tt) }, tt);
      gaps = refl;
    };
    fits = record { sizes = (omega arith, (omega arith, (omega arith, (omega arith, (omega arith, (omega arith, tt)))))); locals = (tt, tt) };
    bytes = refl;
  };
  no_names = refl;
  no_hints = refl;
}
