use Rattle.std.proofs.Common.{◌≡◌, map, subst}
use Rattle.std.specs.List.{flat_map}
use Rattle.std.proofs.lemmas.Result.{err_from_is_err_and}
use Rattle.wasm_encoder_bytes.specs.declared.error.EncodeError.TheVariants.{TooLarge}
use Rattle.wast_core_instr.specs.ExpressionViews.{expression_tree}
use Rattle.wast_core_instr.specs.InstructionViews.{instruction_tree}
use Rattle.wast_meant.specs.NamesMeant.{naming}
use Rattle.wast_name_maps.specs.Gathered.{label_names}
use Rattle.wast_name_maps.specs.Numbered.{none_yet, Fit, NameFits}
use Rattle.wast_name_maps.proofs.Entries.{unfit_inside}
use Rattle.wast_name_maps.proofs.inside.add_labels.Goals as goal

pub returns-in_err-names : goal.returns-in_err-names
returns-in_err-names c =
    let e = c.in_err-names.field-0.0 in
    let p = err_from_is_err_and c.from_residual.result c.from_residual.ensures.1 in
    rw (p.1, p.2) (
    unfit_inside c.args.groups.now (flat_map label_names (expression_tree c.args.body.now).instrs) e
    (subst (λ is. e ≡ TooLarge → ¬ Fit naming NameFits none_yet (flat_map label_names (map instruction_tree is))) c.deref.ensures.value c.in_err-names.ensures)
    )
