use Rattle.std.proofs.Common.{sym, subst, ◌∙◌}
use Rattle.std.specs.Prelude.{option_map}
use Rattle.wast_parser.specs.Identifiers.{identifier_tree}
use Rattle.wast_signatures.specs.SignatureViews.{name_tree}
use Rattle.wast_meaning.specs.Spaces.{bound}
use Rattle.wast_meaning.specs.Views.{space_view}
use Rattle.wast_name_maps.specs.Numbered.{NamesJoin, NamesJoined}
use Rattle.wast_name_maps.proofs.Joining.{joined_none}
use Rattle.wast_name_maps.proofs.Gathering.{wanted_names, unwanted_names}
use Rattle.wast_name_maps.proofs.items.add.Goals as goal

pub returns-then-is_same : goal.returns-then-is_same
returns-then-is_same c =
    let b = bound (space_view c.args.own) (option_map identifier_tree c.args.id.now) (option_map name_tree c.args.name.now) in
    subst (NamesJoin c.add_given.result c.args.names.now c.add_given.new.names) (wanted_names (space_view c.args.wanted) b (sym c.is_same.ensures ∙ c.if-is_same.true)) c.add_given.ensures

pub returns-else-is_same : goal.returns-else-is_same
returns-else-is_same c =
    let old = c.args.names.now in
    let b = bound (space_view c.args.own) (option_map identifier_tree c.args.id.now) (option_map name_tree c.args.name.now) in
    subst (NamesJoined old old) (unwanted_names (space_view c.args.wanted) b (sym c.is_same.ensures ∙ c.if-is_same.false)) (joined_none old)
