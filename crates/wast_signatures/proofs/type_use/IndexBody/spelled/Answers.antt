use Rattle.std.proofs.Common.{[]}
use Rattle.wast_value_types.specs.Tokens.{as_read}
use Rattle.wast_signatures.proofs.SignatureSamples.{index_spelled}
use Rattle.wast_signatures.proofs.type_use.IndexBody.spelled.Goals as goal

pub returns : goal.returns
returns c = index_spelled (as_read []) 0
