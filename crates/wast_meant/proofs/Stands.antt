-- Fields that stand for a module.
use Rattle.std.specs.Prelude.{None}
use Rattle.std.proofs.Common.{refl, arith}
use Rattle.wasm_encoder_custom.specs.Names.{Space, Functions, Types, Tables, Memories, Globals, Elements, DataSegments, Tags, InnerSpace, Locals, Labels, Fields, Parameters, TagParameters}
use Rattle.wast_grammar.specs.Spelling.{same_name}
use Rattle.wast_meaning.specs.Numbered.{resolved}
use Rattle.wasm_layout.specs.AbstractModule.{AbstractModule}
use Rattle.wasm_layout.specs.IsModule.{IsMap, AreInner, IsModule}
use Rattle.wast_grammar.specs.Tokens.{Name}
use Rattle.wast_meant.specs.NamesMeant.{GivenName}
use Rattle.wast_meant.specs.Binary.{in_bytes}
use Rattle.wast_meant.specs.Meaning.{FieldsMean, meant}
use Rattle.wast_meaning.specs.Made.{is_made}
use Rattle.wast_meant.specs.ExampleTrees.{fresh}
use Rattle.wast_meant.specs.Examples.{only_f}

abbrev that : AbstractModule (GivenName Name)
that = meant same_name is_made None (resolved same_name (fresh only_f) only_f)

items : (space : Space) → IsMap ((in_bytes that).names.items space)
items Functions = (omega arith, omega arith, tt)
items Types = tt
items Tables = tt
items Memories = tt
items Globals = tt
items Elements = tt
items DataSegments = tt
items Tags = tt

inner : (space : InnerSpace) → AreInner ((in_bytes that).names.inner space)
inner Locals = record { indices = tt; each = tt }
inner Labels = record { indices = tt; each = tt }
inner Fields = record { indices = tt; each = tt }
inner Parameters = record { indices = tt; each = tt }
inner TagParameters = record { indices = tt; each = tt }

pub stands : FieldsMean same_name is_made (fresh only_f) None only_f that
stands = record {
  is_formed = refl;
  are_met = refl;
  is_covered = refl;
  is_meant = refl;
}

pub is_module : IsModule (in_bytes that)
is_module = record {
  types = (record { supertype = tt; composite_type = (tt, tt) }, tt);
  imports = tt;
  functions = (record { type_index = omega arith; locals = tt; body = record { instructions = tt } }, tt);
  tables = tt;
  memories = tt;
  tags = tt;
  globals = tt;
  exports = tt;
  start = tt;
  elements = tt;
  datas = tt;
  names = record { items = items; inner = inner };
  hint_functions = tt;
  hints = tt;
  gaps = refl;
}
