use Rattle.std.proofs.Common.{sym, ◌∙◌, ap}
use Rattle.std.specs.Prelude.{option_map}
use Rattle.wast_vector_operands.specs.Spelling.{after}
use Rattle.wast_vector_operands.proofs.Beginnings.{stripped}
use Rattle.wast_operands.proofs.Digits.{behind_base}
use Rattle.wast_operands.proofs.number.u64_number.Goals as goal

pub returns-in-Some : goal.returns-in-Some
returns-in-Some c =
    let text = c.args.text.now in
    let rest = sym (stripped c.as_bytes.result.now text c.strip_prefix.result c.strip_prefix.ensures.cases) ∙ ap (option_map (λ b. b.now)) c.in-Some.is in
    c.digits_number.ensures ∙ behind_base text c.in-Some.digits.now (ap (λ p. after p text) (sym c.as_bytes.ensures.value) ∙ rest)
