use Rattle.std.proofs.Common.{[]}
use Rattle.wast_signatures.specs.Tokens.{as_read}
use Rattle.wast_typed_operands.proofs.TypedLaws.{clause_leads}
use Rattle.wast_typed_operands.proofs.catch.TryTableCatchPeek.leads.Goals as goal

pub returns : goal.returns
returns c = clause_leads (as_read []) 0
