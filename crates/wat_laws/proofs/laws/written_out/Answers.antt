use Rattle.wat_laws.proofs.WrittenOut.{written_out_alike}
use Rattle.wat_laws.proofs.laws.written_out.Goals as goal

pub returns : goal.returns
returns c = written_out_alike
