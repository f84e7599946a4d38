use Rattle.std.proofs.Common.{refl, ap}
use Rattle.wasm_encoder_base.specs.Bytes.{sized, optional}
use Rattle.wasm_encoder_base.specs.Leb.{uleb}
use Rattle.wasm_layout.proofs.laws.as_built.Goals as goal

pub returns : goal.returns
returns c m = record {
  types = refl;
  imports = refl;
  functions = refl;
  tables = refl;
  memories = refl;
  tags = refl;
  globals = refl;
  exports = refl;
  start = λ function e. ap (λ o. sized (optional uleb o)) e;
  elements = refl;
  data_count = refl;
  hints = refl;
  codes = refl;
  datas = refl;
  names = refl;
}
