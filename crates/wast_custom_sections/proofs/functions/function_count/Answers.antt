use Rattle.std.proofs.Common.{length, ap, sym}
use Rattle.wast_custom_sections.proofs.Counted.{no_functions}
use Rattle.wast_custom_sections.proofs.functions.function_count.Goals as goal

pub returns-in_default : goal.returns-in_default
returns-in_default c = sym (ap length (no_functions c.args.field.now c.in_default.not-Func c.in_default.not-Import))
