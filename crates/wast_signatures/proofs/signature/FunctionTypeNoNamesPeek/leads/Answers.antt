use Rattle.wast_signatures.proofs.SignatureSamples.{bare_sig_leads}
use Rattle.wast_signatures.proofs.signature.FunctionTypeNoNamesPeek.leads.Goals as goal

pub returns : goal.returns
returns c = bare_sig_leads
