use Rattle.wast_field_syntax.proofs.FieldLeads.{lone_instruction_laws}
use Rattle.wast_field_syntax.proofs.look.InstructionGroupMeaning.lawful.Goals as goal

pub returns : goal.returns
returns c = lone_instruction_laws
