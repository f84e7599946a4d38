use Rattle.std.proofs.Common.{refl, List, [], arith}
use Rattle.std.proofs.lemmas.Result.{err_from_is_err_and}
use Rattle.wast_customs.specs.CustomTree.{Subsection}
use Rattle.wast_customs.specs.CustomViews.{subsection_tree}
use Rattle.wast_custom_sections.specs.Parts.{subsection_bytes}
use Rattle.wast_custom_sections.proofs.Errors.{same_error}
use Rattle.wast_custom_sections.proofs.Sizes.{cons_size}
use Rattle.wast_custom_sections.proofs.Steps.{step_size}
use Rattle.wast_custom_sections.proofs.dylink.subsections.Goals as goal

pub returns-in_err-put_subsection-clause-too_large : goal.returns-in_err-put_subsection-clause-too_large
returns-in_err-put_subsection-clause-too_large c =
    let all : List Subsection → List Subsection = λ ss. ss in
    let x = c.subsection-item.result in
    let size = step_size all (λ xs ys. refl) subsection_bytes subsection_tree c.args.subsections.now c.loop-subsection.subsection-index x (omega arith) c.subsection-item.is in
    let one = cons_size subsection_bytes (subsection_tree x) [] in
    let r = err_from_is_err_and c.from_residual.result c.from_residual.ensures.1 in
    rw (r.1, r.2) (λ e l. c.in_err-put_subsection.ensures.too_large (same_error e) (omega arith))
