use Rattle.std.proofs.Common.{refl}
use Rattle.wasm_encoder_bytes.proofs.ListLaws.{listed-last}
use Rattle.wasm_encoder_bytes.proofs.laws.lists.Goals as goal

pub returns : goal.returns
returns c = record { none = refl; one_more = listed-last (λ bytes. bytes) }
