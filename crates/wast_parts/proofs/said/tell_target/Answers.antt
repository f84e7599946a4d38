use Rattle.std.specs.Prelude.{option_map}
use Rattle.wast_parser.specs.Identifiers.{index_tree}
use Rattle.wast_meaning.specs.Mentions.{Says, refers_if}
use Rattle.wast_meaning.specs.Views.{space_view}
use Rattle.wast_parts.proofs.Judging.{judged_as_parts}
use Rattle.wast_parts.proofs.said.tell_target.Goals as goal

pub returns : goal.returns
returns g c =
    let j = g.J.PartJudgement in
    judged_as_parts (j.asks c.args.judge.now) j.holds j.tells Says c.tell_index_if.result (refers_if (space_view c.args.space) (option_map index_tree c.args.index.now)) c.tell_index_if.ensures
