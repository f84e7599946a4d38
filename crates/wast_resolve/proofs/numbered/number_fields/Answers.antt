use Rattle.std.proofs.Common.{◌≡◌, ℕ, List, map, ap, ◌∙◌}
use Rattle.wast_grammar.specs.Spelling.{same_name}
use Rattle.wast_core.specs.ModuleFieldViews.{field_tree}
use Rattle.wast_meaning.specs.Changed.{field_changed}
use Rattle.wast_meaning.specs.Numbered.{numbered}
use Rattle.wast_implied.specs.Views.{known}
use Rattle.wast_numbered.specs.Params.{param_counts}
use Rattle.wast_numbered.specs.Place.{numberings_by}
use Rattle.wast_resolve.proofs.Agree.{as_numbered}
use Rattle.wast_expanded.proofs.Given.{gives}
use Rattle.wast_resolve.proofs.numbered.number_fields.Goals as goal

pub returns-in-Ok : goal.returns-in-Ok
returns-in-Ok c = λ t.
    let s = c.args.spaces.now in
    let fs = map field_tree c.args.fields.now.items in
    let counts =
    c.deref-in-Ok.ensures.value ∙ c.in-Ok.ensures ∙ ap (λ l. param_counts (map field_tree l) (known c.args.implied.now).implied) c.deref.ensures.value
    ∙ ap (param_counts fs) c.requires
    in
    let by = λ (ps : List ℕ). map (field_changed (numberings_by s ps)) fs in
    let numbers : by c.deref-in-Ok.result.now ≡ numbered same_name fs = ap by counts ∙ as_numbered s fs t in
    gives c.number_taken.result _ (by c.deref-in-Ok.result.now) (numbered same_name fs) numbers c.number_taken.ensures
