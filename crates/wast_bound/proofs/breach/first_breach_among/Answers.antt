use Rattle.std.proofs.Common.{◌||◌, false, map, slice_get, ap, ◌∙◌}
use Rattle.wast_grammar.specs.Spelling.{same_name}
use Rattle.wast_fields.specs.FieldTree.{is_start}
use Rattle.wast_names.specs.Walk.{walked}
use Rattle.wast_core.specs.ModuleFieldViews.{field_tree}
use Rattle.wast_meaning.specs.Scope.{scope_of}
use Rattle.wast_meaning.specs.WellFormed.{breach}
use Rattle.wast_meaning.specs.Made.{is_made}
use Rattle.wast_bound.proofs.breach.first_breach_among.Goals as goal

pub returns : goal.returns
returns g c =
    c.first_breach_in.ensures
    ∙ ap (λ fs. slice_get (walked (breach same_name is_made (scope_of same_name fs)) (λ started f. started || is_start f) false (map field_tree c.args.fields.now)) 0) c.requires
