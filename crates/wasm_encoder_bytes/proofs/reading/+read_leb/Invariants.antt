use Rattle.std.proofs.Common.{length}
use Rattle.wasm_encoder_bytes.proofs.reading.+read_leb.Given as goal

abbrev pub decreases-read_leb : goal.decreases-read_leb
decreases-read_leb l = length l.bytes.now
