use Rattle.wast_parser.specs.Identifiers.{identifier_tree}
use Rattle.wast_core.specs.ModuleFieldViews.{field_tree}
use Rattle.wast_meaning.specs.Spaces.{items}
use Rattle.wast_meaning.specs.Views.{space_view}
use Rattle.wast_bound.specs.Bound.{joins}
use Rattle.wast_bound.proofs.Walked.{Any}
use Rattle.wast_bound.proofs.items.is_item.Given as goal

abbrev pub invariant-loop-field : goal.invariant-loop-field
invariant-loop-field l = Any (joins (space_view l.space) (identifier_tree l.id).0) items field_tree l.fields l.field-index
