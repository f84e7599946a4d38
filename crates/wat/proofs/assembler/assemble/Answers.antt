use Rattle.std.proofs.Common.{ap, subst, ◌∙◌, Err}
use Rattle.std.proofs.lemmas.Result.{MatchResult-weaker}
use Rattle.wat.specs.Judged.{IsAnswered, IsTold}
use Rattle.wat.proofs.Deserved.{assembled, deserved, told_not_utf8}
use Rattle.wat.proofs.assembler.assemble.Goals as goal

pub returns-in-Err-clause-not_utf8 : goal.returns-in-Err-clause-not_utf8
returns-in-Err-clause-not_utf8 c n h = ap Err (told_not_utf8 c.args.input.now c.in-Err.fault n c.in-Err.ensures h)

pub returns-clause-answers : goal.returns-clause-answers
returns-clause-answers c =
    let text = c.in-Ok-new.ensures.text.0 ∙ c.in-Ok.ensures.0 in
    let bytes = c.args.input.now in
    MatchResult-weaker c.binary_of_text.result c.binary_of_text.ensures
    (λ binary a. assembled bytes c.in-Ok.ensures.1 c.in-Ok.ensures.2 binary.items (subst (λ t. IsAnswered t binary.items) text a))
    (λ fault t. deserved bytes c.in-Ok.ensures.1 c.in-Ok.ensures.2 fault (subst (λ t. IsTold t fault) text t))
