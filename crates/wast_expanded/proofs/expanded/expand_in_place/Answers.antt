use Rattle.std.proofs.Common.{◌≡◌, map, subst}
use Rattle.wast_grammar.specs.Spelling.{same_name}
use Rattle.wast_module_fields.specs.ModuleFieldViews.{field_tree}
use Rattle.wast_meaning.specs.Numbered.{expanded}
use Rattle.wast_implied.specs.Views.{known}
use Rattle.wast_expanded.specs.Expanding.{expanded_by}
use Rattle.wast_expanded.proofs.Expands.{as_expanded}
use Rattle.wast_expanded.proofs.Given.{gives}
use Rattle.wast_expanded.proofs.expanded.expand_in_place.Goals as goal

pub returns-in-Ok : goal.returns-in-Ok
returns-in-Ok c =
    let k = known c.in-Ok.implied in
    let fs = map field_tree c.args.fields.now.items in
    let lent = as_expanded k (map field_tree c.deref.result.now) c.in-Ok.ensures.numbers c.in-Ok.ensures.types in
    let types : expanded_by k fs ≡ expanded same_name fs = subst (λ l. expanded_by k (map field_tree l) ≡ expanded same_name (map field_tree l)) c.deref.ensures.value lent in
    gives c.expand_known.result _ (expanded_by k fs) (expanded same_name fs) types c.expand_known.ensures
