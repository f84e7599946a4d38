use Rattle.wast_signatures.proofs.SignatureSamples.{sig_leads}
use Rattle.wast_signatures.proofs.signature.FunctionTypePeek.leads.Goals as goal

pub returns : goal.returns
returns c = sig_leads
