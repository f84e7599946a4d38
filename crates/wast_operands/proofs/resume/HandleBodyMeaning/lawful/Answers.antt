use Rattle.wast_operands.proofs.OperandLaws.{handle_led_laws}
use Rattle.wast_operands.proofs.resume.HandleBodyMeaning.lawful.Goals as goal

pub returns : goal.returns
returns c = handle_led_laws
