use Rattle.wast_field_syntax.proofs.FieldLeads.{lone_instruction_leads}
use Rattle.wast_field_syntax.proofs.look.InstructionGroupPeek.leads.Goals as goal

pub returns : goal.returns
returns c = lone_instruction_leads
