use Rattle.std.proofs.Common.{map, ap, sym, subst, ◌∙◌}
use Rattle.std.specs.List.{flat_map}
use Rattle.std.proofs.lemmas.Result.{err_from_is_err_and}
use Rattle.wast_module_fields.specs.ModuleFieldViews.{field_tree}
use Rattle.wast_names.specs.Walk.{first_unmet}
use Rattle.wast_names.specs.Demand.{is_met, Refuses}
use Rattle.wast_meaning.specs.Spaces.{items}
use Rattle.wast_spaces.specs.Joins.{joining}
use Rattle.wast_spaces.proofs.spaces.Spaces.of.Goals as goal

pub returns-in_err-add_fields-clause-answers : goal.returns-in_err-add_fields-clause-answers
returns-in_err-add_fields-clause-answers c =
    let all = flat_map items (map field_tree c.args.fields.now) in
    let p = err_from_is_err_and c.from_residual.result c.from_residual.ensures.1 in
    rw (p.1, p.2) (subst (λ s. Refuses (joining s all) c.in_err-add_fields.field-0.0) c.new-spaces.ensures.spaces c.in_err-add_fields.ensures)

pub returns-clause-answers : goal.returns-clause-answers
returns-clause-answers c =
    let all = flat_map items (map field_tree c.args.fields.now) in
    ap (λ s. first_unmet is_met (joining s all)) (sym c.new-spaces.ensures.spaces) ∙ c.in_ok-add_fields.ensures.met
