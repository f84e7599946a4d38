use Rattle.std.proofs.Common.{◌≡◌, ◌||◌, false, map, drop}
use Rattle.std.specs.Prelude.{slice_get}
use Rattle.wast_grammar.specs.Spelling.{same_name}
use Rattle.wast_names.specs.Walk.{walked}
use Rattle.wast_fields.specs.FieldTree.{is_start}
use Rattle.wast_core.specs.ModuleFieldViews.{field_tree}
use Rattle.wast_meaning.specs.WellFormed.{breach}
use Rattle.wast_meaning.specs.Made.{is_made}
use Rattle.wast_bound.proofs.breach.first_breach_in.Given as goal

abbrev pub invariant-loop-field : goal.invariant-loop-field
invariant-loop-field g l =
    let breach_of = breach same_name is_made (g.K.Known.scope l.known) in
    slice_get (walked breach_of (λ started f. started || is_start f) l.started (map field_tree (drop l.field-index l.fields))) 0
    ≡ slice_get (walked breach_of (λ started f. started || is_start f) false (map field_tree l.fields)) 0
