use Rattle.std.proofs.Common.{sym, ◌∙◌}
use Rattle.wasm_layout.proofs.laws.one_binary.Goals as goal

pub returns : goal.returns
returns c b d m l k = l.bytes ∙ sym k.bytes
