use Rattle.std.proofs.Common.{sym, ◌∙◌}
use Rattle.wast_parser.specs.Identifiers.{identifier_tree}
use Rattle.wast_core.specs.ModuleFieldViews.{field_tree}
use Rattle.wast_meaning.specs.Spaces.{items}
use Rattle.wast_meaning.specs.Views.{space_view}
use Rattle.wast_bound.specs.Bound.{joins}
use Rattle.wast_bound.proofs.Walked.{any_goes, any_ends}
use Rattle.wast_bound.proofs.items.is_item.Goals as goal

pub loop-field-preserved : goal.loop-field-preserved
loop-field-preserved c =
    any_goes (joins (space_view c.args.space) (identifier_tree c.args.id.now).0) items field_tree c.args.fields.now c.loop-field.field-index c.field-item.result c.loop-field-test.true c.field-item.is
    (sym c.if-binds.false ∙ c.binds.ensures) c.loop-field.invariant

pub returns : goal.returns
returns c =
    any_ends (joins (space_view c.args.space) (identifier_tree c.args.id.now).0) items field_tree c.args.fields.now c.loop-field.field-index c.loop-field-test.false c.loop-field.invariant
