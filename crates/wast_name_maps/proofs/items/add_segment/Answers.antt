use Rattle.std.proofs.Common.{None, sym, subst, ◌∙◌}
use Rattle.wast_meaning.specs.Spaces.{bound}
use Rattle.wast_meaning.specs.Views.{space_view}
use Rattle.wast_name_maps.specs.Numbered.{NamesJoin, NamesJoined}
use Rattle.wast_name_maps.proofs.Joining.{joined_none}
use Rattle.wast_name_maps.proofs.Gathering.{wanted_names, unwanted_names}
use Rattle.wast_name_maps.proofs.items.add_segment.Goals as goal

pub returns-then-is_same : goal.returns-then-is_same
returns-then-is_same c =
    subst (NamesJoin c.add.result c.args.names.now c.add.new.self) (wanted_names (space_view c.args.wanted) (bound (space_view c.args.own) None None) (sym c.is_same.ensures ∙ c.if-is_same.true)) c.add.ensures

pub returns-else-is_same : goal.returns-else-is_same
returns-else-is_same c =
    let old = c.args.names.now in
    subst (NamesJoined old old) (unwanted_names (space_view c.args.wanted) (bound (space_view c.args.own) None None) (sym c.is_same.ensures ∙ c.if-is_same.false)) (joined_none old)
