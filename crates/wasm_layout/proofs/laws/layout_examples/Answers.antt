use Rattle.std.proofs.Common.{refl}
use Rattle.wasm_encoder_base.specs.Leb.{uleb, sleb, leb, digits}
use Rattle.wasm_layout.proofs.Examples.{read}
use Rattle.wasm_layout.proofs.laws.layout_examples.Goals as goal

pub returns : goal.returns
unfolding uleb sleb leb digits
returns c = record {
  nothing = refl;
  hints = refl;
  read = read;
  imported = refl;
  second = refl;
  data_count = refl;
  names_away = refl;
  joined_gap = refl;
}
