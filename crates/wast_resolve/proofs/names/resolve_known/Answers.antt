use Rattle.std.proofs.Common.{◌++◌, map, subst}
use Rattle.std.specs.List.{flat_map}
use Rattle.wast_grammar.specs.Spelling.{same_name}
use Rattle.wast_core.specs.ModuleFieldViews.{field_tree}
use Rattle.wast_names.specs.Demand.{Refuses}
use Rattle.wast_names.proofs.Demands.{refuses_first}
use Rattle.wast_meaning.specs.Demands.{order_demands, item_demands, field_demands}
use Rattle.wast_meaning.specs.Scope.{scope_of}
use Rattle.wast_meaning.specs.Spaces.{items}
use Rattle.wast_resolve.proofs.names.resolve_known.Goals as goal

pub returns-in-Err-clause-answers : goal.returns-in-Err-clause-answers
returns-in-Err-clause-answers c =
    let fs = map field_tree c.args.fields.now.items in
    refuses_first (order_demands fs ++ item_demands same_name (flat_map items fs)) (flat_map (field_demands same_name (scope_of same_name fs)) fs) c.in-Err.e
    (subst (λ l. Refuses (order_demands (map field_tree l) ++ item_demands same_name (flat_map items (map field_tree l))) c.in-Err.e) c.deref.ensures.value c.in-Err.ensures.answers)
