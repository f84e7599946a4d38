use Rattle.std.proofs.Common.{sym, ◌∙◌, ap, subst, take, length, ◌-◌}
use Rattle.std.specs.List.{list_all}
use Rattle.wast_lexer_numbers.specs.Numbers.{Digits}
use Rattle.wast_lexer_numbers.specs.FloatSteps.{is_ascii}
use Rattle.wast_lexer_numbers.proofs.NumberPartsLaws.{digits_cut, front_is, all_behind}
use Rattle.wast_lexer_numbers.proofs.read.split_digits.Goals as goal

pub overflow_sub-at : goal.overflow_sub-at
overflow_sub-at c = (digits_cut c.args.hex c.args.text.now c.in-Some.rest.now (rw c.as_bytes.ensures.value at (c.in-Some.ensures))).short

pub returns-clause-digits : goal.returns-clause-digits
returns-clause-digits c =
    let cut = digits_cut c.args.hex c.args.text.now c.in-Some.rest.now (rw c.as_bytes.ensures.value at (c.in-Some.ensures)) in
    subst (Digits c.args.hex) (sym (c.range.ensures.value ∙ front_is c.args.text.now _)) cut.digits

pub returns-clause-rest : goal.returns-clause-rest
returns-clause-rest c =
    let found = rw c.as_bytes.ensures.value at (c.in-Some.ensures) in
    let cut = digits_cut c.args.hex c.args.text.now c.in-Some.rest.now found in
    rw (c.range_from.ensures.value, cut.behind) found

pub returns-clause-ascii : goal.returns-clause-ascii
returns-clause-ascii c =
    let text = c.args.text.now in
    let cut = digits_cut c.args.hex text c.in-Some.rest.now (rw c.as_bytes.ensures.value at (c.in-Some.ensures)) in
    rw (c.range_from.ensures.value, cut.behind) (all_behind is_ascii (take (length text - length c.in-Some.rest.now) text) c.in-Some.rest.now (ap (list_all is_ascii) (sym cut.split) ∙ c.requires.ascii))
