use Rattle.std.proofs.Common.{◌≡◌, ◌++◌, None, map, subst, ◌∙◌}
use Rattle.std.specs.List.{flat_map}
use Rattle.wast_grammar.specs.Spelling.{same_name}
use Rattle.wast_core.specs.ModuleFieldViews.{field_tree}
use Rattle.wast_names.specs.Demand.{Refuses, is_met}
use Rattle.wast_names.specs.Walk.{first_unmet}
use Rattle.wast_names.proofs.Demands.{refuses_second}
use Rattle.wast_names.proofs.Walk.{unmet_after}
use Rattle.wast_meaning.specs.Demands.{order_demands, item_demands, field_demands}
use Rattle.wast_meaning.specs.Scope.{scope_of}
use Rattle.wast_meaning.specs.Spaces.{items}
use Rattle.wast_resolve.proofs.names.number_ordered.Goals as goal

pub number_met-requires-clause-met : goal.number_met-requires-clause-met
number_met-requires-clause-met c =
    let fs = map field_tree c.args.fields.now.items in
    unmet_after is_met (order_demands fs ++ item_demands same_name (flat_map items fs)) (flat_map (field_demands same_name (scope_of same_name fs)) fs) c.requires.ordered
    ∙ subst (λ l. first_unmet is_met (flat_map (field_demands same_name (scope_of same_name (map field_tree l))) (map field_tree l)) ≡ None) c.deref.ensures.value c.in-Ok.ensures

pub returns-in-Err-clause-answers : goal.returns-in-Err-clause-answers
returns-in-Err-clause-answers c =
    let fs = map field_tree c.args.fields.now.items in
    refuses_second (order_demands fs ++ item_demands same_name (flat_map items fs)) (flat_map (field_demands same_name (scope_of same_name fs)) fs) c.in-Err.e c.requires.ordered
    (subst (λ l. Refuses (flat_map (field_demands same_name (scope_of same_name (map field_tree l))) (map field_tree l)) c.in-Err.e) c.deref.ensures.value c.in-Err.ensures)
