use Rattle.std.proofs.Common.{refl}
use Rattle.wasm_encoder_bytes.specs.Leb.{uleb, sleb, leb, digits}
use Rattle.wasm_encoder_bytes.proofs.laws.spelling_examples.Goals as goal

pub returns : goal.returns
unfolding uleb sleb leb digits
returns c = record { unsigned = refl; signed = refl; name = refl; list = refl }
