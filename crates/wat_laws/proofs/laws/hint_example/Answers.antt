use Rattle.std.proofs.Common.{[], refl}
use Rattle.wasm_encoder_base.specs.Leb.{uleb, sleb, leb, digits}
use Rattle.wasm_layout.proofs.Examples.{read}
use Rattle.wat_laws.proofs.laws.hint_example.Goals as goal

pub returns : goal.returns
unfolding uleb sleb leb digits
returns c = record {
  has = record { before = []; after = []; front = []; back = []; is = refl };
  laid = read.lays;
  distance = refl;
  listed = refl;
  body = refl;
  begins = refl;
}
