use Rattle.std.proofs.Common.{[]}
use Rattle.wast_vector_operands.specs.Tokens.{as_read}
use Rattle.wast_operands.proofs.OperandLaws.{handle_leads}
use Rattle.wast_operands.proofs.resume.HandlePeek.leads.Goals as goal

pub returns : goal.returns
returns c = handle_leads (as_read []) 0
