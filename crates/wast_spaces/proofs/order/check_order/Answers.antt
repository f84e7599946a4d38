use Rattle.std.proofs.Common.{None, map, sym, ◌∙◌, ap}
use Rattle.std.specs.Prelude.{option_map}
use Rattle.std.proofs.lemmas.Result.{err_from_is_err_and}
use Rattle.wast_module_fields.specs.ModuleFieldViews.{field_tree}
use Rattle.wast_names.specs.Walk.{first_unmet}
use Rattle.wast_names.specs.Demand.{is_met}
use Rattle.wast_names.proofs.Walk.{walk_more, walk_done, walk_stops, walked_map}
use Rattle.wast_names.proofs.Demands.{walk_refuses}
use Rattle.wast_meaning.specs.Demands.{nearest, order_demand, order_demands}
use Rattle.wast_spaces.specs.Views.{space_of}
use Rattle.wast_spaces.proofs.Ordered.{asks, after, found_too, or_map}
use Rattle.wast_spaces.proofs.order.check_order.Goals as goal

pub returns-clause-answers : goal.returns-clause-answers
returns-clause-answers c =
    let fields = c.args.fields.now in
    ap (first_unmet is_met) (walked_map field_tree nearest order_demand None fields)
    ∙ walk_done after asks is_met (option_map space_of c.loop-field.nearest) fields c.loop-field.field-index _ c.loop-field-test.false c.loop-field.invariant

pub returns-in_err-refuse_import-clause-answers : goal.returns-in_err-refuse_import-clause-answers
returns-in_err-refuse_import-clause-answers c =
    let fields = c.args.fields.now in
    let whole = walked_map field_tree nearest order_demand None fields in
    let p = err_from_is_err_and c.from_residual.result c.from_residual.ensures.1 in
    rw (p.1, p.2) (walk_refuses after asks (option_map space_of c.loop-field.nearest) fields c.loop-field.field-index c.field-item.result (order_demands (map field_tree fields)) c.in_err-refuse_import.field-0.0 c.loop-field-test.true c.field-item.is (c.loop-field.invariant ∙ ap (first_unmet is_met) (sym whole)) c.in_err-refuse_import.ensures.answers)

pub returns-in_err-refuse_import-clause-exact : goal.returns-in_err-refuse_import-clause-exact
returns-in_err-refuse_import-clause-exact c =
    let fields = c.args.fields.now in
    let s = option_map space_of c.loop-field.nearest in
    let whole = walked_map field_tree nearest order_demand None fields in
    let p = err_from_is_err_and c.from_residual.result c.from_residual.ensures.1 in
    rw p.1 (found_too (first_unmet is_met (asks s c.field-item.result)) (first_unmet is_met (order_demands (map field_tree fields)))
    (λ d. walk_stops after asks is_met s fields c.loop-field.field-index c.field-item.result (first_unmet is_met (order_demands (map field_tree fields))) d c.loop-field-test.true c.field-item.is (c.loop-field.invariant ∙ ap (first_unmet is_met) (sym whole)))
    c.in_err-refuse_import.ensures.exact)

pub loop-field-preserved : goal.loop-field-preserved
loop-field-preserved c =
    let s = option_map space_of c.loop-field.nearest in
    walk_more after asks is_met s (option_map space_of c.or-nearest.result) c.args.fields.now c.loop-field.field-index c.field-item.result _ c.loop-field-test.true c.field-item.is
    c.in_ok-refuse_import.ensures.answers (ap (option_map space_of) c.or-nearest.ensures ∙ or_map space_of c.defined.result c.loop-field.nearest ∙ sym (c.defined.ensures s)) c.loop-field.invariant
