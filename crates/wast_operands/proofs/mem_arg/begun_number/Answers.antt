use Rattle.std.proofs.Common.{sym, ◌∙◌, ap, Some, inr}
use Rattle.wast_vector_operands.specs.Grammar.{begun}
use Rattle.wast_vector_operands.specs.State.{ahead}
use Rattle.wast_vector_operands.proofs.States.{refuses_all}
use Rattle.wast_operands.specs.OperandSyntax.{u64_number}
use Rattle.wast_operands.proofs.Said.{without_place, told, untold, unread}
use Rattle.wast_operands.proofs.mem_arg.begun_number.Goals as goal

pub returns-in-Some-clause-read : goal.returns-in-Some-clause-read
returns-in-Some-clause-read c =
    told c.args.prefix.now (λ w. Some w) u64_number (ahead c.args.parser.now) _ _ _ (ap without_place c.in-Ok.ensures.read) (sym c.u64_number.ensures ∙ c.in-Some.is)

pub returns-in-None-clause-read : goal.returns-in-None-clause-read
returns-in-None-clause-read c =
    inr (untold c.args.prefix.now (λ w. Some w) u64_number (ahead c.args.parser.now) _ _ (ap without_place c.in-Ok.ensures.read) (sym c.u64_number.ensures ∙ c.in-None.is))

pub returns-in-Err-clause-read : goal.returns-in-Err-clause-read
returns-in-Err-clause-read c =
    refuses_all _ ((begun c.args.prefix.now (λ w. Some w)).reads (ahead c.args.parser.now)) _
    (λ n. unread c.args.prefix.now (λ w. Some w) u64_number (ahead c.args.parser.now) (ap without_place n)) c.in-Err.ensures.read
