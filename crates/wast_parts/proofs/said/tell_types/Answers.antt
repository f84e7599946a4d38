use Rattle.std.proofs.Common.{ℕ, List, map, refl}
use Rattle.std.specs.List.{flat_map}
use Rattle.wast_grammar.specs.Tokens.{Name}
use Rattle.wast_core_types.specs.TypeViews.{item_tree}
use Rattle.wast_meaning.specs.Mentions.{Mention, Says, type_mentions}
use Rattle.wast_mentions.proofs.Judging.{each_seen, judged_as}
use Rattle.wast_parts.proofs.Judging.{judged_as_parts}
use Rattle.wast_parts.proofs.said.tell_types.Goals as goal

pub returns : goal.returns
returns g c =
    let j = g.J.PartJudgement in
    let ts = c.args.types.now in
    let asks : Mention Name ℕ → List j.Demand = λ m. j.asks c.args.judge.now (Says m) in
    let seen = each_seen type_mentions item_tree ts ts refl in
    judged_as_parts (j.asks c.args.judge.now) j.holds j.tells Says c.tell_each.result (flat_map type_mentions (map item_tree ts)) (judged_as asks j.holds j.tells c.tell_each.result (flat_map (λ t. type_mentions (item_tree t)) ts) (flat_map type_mentions (map item_tree ts)) seen c.tell_each.ensures)
