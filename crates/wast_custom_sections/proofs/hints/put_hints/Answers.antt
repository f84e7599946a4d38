use Rattle.std.proofs.Common.{◌<◌, map, refl, arith, true-eqb, false-eqb}
use Rattle.std.proofs.lemmas.Result.{err_from_is_err_and}
use Rattle.wast_module_fields.specs.ModuleFieldViews.{field_tree}
use Rattle.wast_custom_sections.proofs.Errors.{same_error}
use Rattle.wast_custom_sections.proofs.Meant.{all_hinted, hinted_fit, bytes_of_fit, absent, present}
use Rattle.wast_custom_sections.proofs.Numbered.{listed_none, listed_some}
use Rattle.wast_custom_sections.proofs.hints.put_hints.Goals as goal

pub returns-in_err-section : goal.returns-in_err-section
returns-in_err-section c =
    let fs = map field_tree c.args.fields.now in
    let r = err_from_is_err_and c.from_residual.result c.from_residual.ensures.1 in
    rw (r.1, r.2) (record { spelled = tt; fit = tt; unchanged = refl; too_large = λ e f. c.in_err-section.ensures.too_large (same_error e) (hinted_fit fs f) (bytes_of_fit fs f) })

pub returns-then-is_empty : goal.returns-then-is_empty
returns-then-is_empty c =
    let fs = map field_tree c.args.fields.now in
    let made = c.in_ok-section.ensures in
    absent fs (listed_none (all_hinted fs) c.in_ok-section.section made.made (true-eqb _ 0 c.if-is_empty.ensures)) made.fits c.args.module.now

pub returns : goal.returns
returns c =
    let fs = map field_tree c.args.fields.now in
    let made = c.in_ok-section.ensures in
    let some : 0 < c.in_ok-section.section.count = omega (arith, false-eqb _ 0 c.if-is_empty.ensures) in
    present fs (listed_some (all_hinted fs) c.in_ok-section.section made.made some) made.fits made.made c.add_section.ensures
