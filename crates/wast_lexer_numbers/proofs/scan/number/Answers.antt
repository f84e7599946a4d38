use Rattle.std.proofs.Common.{sym, ap, ◌∙◌}
use Rattle.wast_lexer_numbers.specs.NumberScan.{sign_of, body}
use Rattle.wast_lexer_numbers.proofs.NumberLaws.{not_begun, kinds_found}
use Rattle.wast_lexer_numbers.proofs.scan.number.Goals as goal

pub returns-then-not-begins_number : goal.returns-then-not-begins_number
returns-then-not-begins_number c =
    let none = sym (not_begun c.args.word.now (sym c.if-not-begins_number.ensures)) in
    record { scanned = none; kinds = kinds_found _ _ none }

pub returns-clause-kinds : goal.returns-clause-kinds
returns-clause-kinds c =
    let parts = c.split_sign-sign.ensures in
    kinds_found _ _ (c.body.ensures ∙ ap (λ s. body s c.split_sign-sign.result.1.now) parts.sign ∙ ap (body (sign_of c.args.word.now)) parts.rest)
