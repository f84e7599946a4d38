use Rattle.std.proofs.Common.{Err, ap}
use Rattle.wast_encode.proofs.Encoded.{unlaid}
use Rattle.wast_encode.proofs.options.encode_text.Goals as goal

pub returns-in-Err : goal.returns-in-Err
returns-in-Err c = unlaid _ c.in-Err.error (λ t. c.in-Err.ensures.too_large (ap Err t)) c.fault_of.result c.fault_of.ensures
