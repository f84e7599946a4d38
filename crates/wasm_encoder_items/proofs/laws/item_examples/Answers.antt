use Rattle.std.proofs.Common.{refl}
use Rattle.wasm_encoder_base.specs.Leb.{uleb, leb, digits}
use Rattle.wasm_encoder_items.proofs.laws.item_examples.Goals as goal

pub returns : goal.returns
unfolding uleb leb digits
returns c = record {
  limits = refl;
  group = refl;
  import = refl;
  of_module = refl;
  of_type = refl;
  export = refl;
  table = refl;
  global = refl;
  functions = refl;
  values = refl;
  typed_values = refl;
  first_memory = refl;
  second_memory = refl;
}
