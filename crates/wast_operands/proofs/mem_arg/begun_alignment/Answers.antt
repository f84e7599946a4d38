use Rattle.std.proofs.Common.{ℕ, sym, ◌∙◌, ap, Option, Some, None, inr, cond}
use Rattle.std.specs.Prelude.{codes}
use Rattle.std.specs.Int.{is_power_of_two}
use Rattle.wast_vector_operands.specs.State.{ahead}
use Rattle.wast_vector_operands.proofs.States.{refuses_all}
use Rattle.wast_operands.specs.OperandSyntax.{u64_number}
use Rattle.wast_operands.proofs.Said.{says, told, untold, unread}
use Rattle.wast_operands.proofs.mem_arg.begun_alignment.Goals as goal

-- a power of two alone
abbrev power : ℕ → Option ℕ
power n = cond (is_power_of_two n) (Some n) None

pub returns-then-is_power_of_two-clause-read : goal.returns-then-is_power_of_two-clause-read
returns-then-is_power_of_two-clause-read c =
    let n = c.in-Ok.align in
    told (codes "align=") u64_number power (ahead c.args.parser.now) _ n n c.in-Ok.ensures.read (ap (λ b. cond b (Some n) None) (sym c.is_power_of_two.ensures ∙ c.if-is_power_of_two.true))

pub returns-else-is_power_of_two-clause-read : goal.returns-else-is_power_of_two-clause-read
returns-else-is_power_of_two-clause-read c =
    let n = c.in-Ok.align in
    inr (untold (codes "align=") u64_number power (ahead c.args.parser.now) _ n c.in-Ok.ensures.read (ap (λ b. cond b (Some n) None) (sym c.is_power_of_two.ensures ∙ c.if-is_power_of_two.false)))

pub returns-in-Err-clause-read : goal.returns-in-Err-clause-read
returns-in-Err-clause-read c =
    refuses_all _ (says (codes "align=") u64_number (ahead c.args.parser.now)) _ (unread (codes "align=") u64_number power (ahead c.args.parser.now)) c.in-Err.ensures.read
