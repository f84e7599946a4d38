use Rattle.wast_mentions.proofs.Judging.{each_goes, each_ends, each_stops}
use Rattle.wast_mentions.proofs.tell.tell_each.Goals as goal

pub loop-item-preserved : goal.loop-item-preserved
loop-item-preserved g c =
    let j = g.J.Judgement in
    let asks = j.asks c.args.judge.now in
    each_goes asks j.holds j.tells g.T.Mentions.mentions _ _ _ c.loop-item-test.true c.item-item.is c.in-Ok.ensures c.loop-item.invariant

pub returns : goal.returns
returns g c =
    let j = g.J.Judgement in
    let asks = j.asks c.args.judge.now in
    each_ends asks j.holds j.tells g.T.Mentions.mentions _ _ c.loop-item-test.false c.loop-item.invariant

pub returns-in-Err : goal.returns-in-Err
returns-in-Err g c =
    let j = g.J.Judgement in
    let asks = j.asks c.args.judge.now in
    each_stops asks j.holds j.tells g.T.Mentions.mentions j.anywhere _ _ _ _ c.loop-item-test.true c.item-item.is c.in-Err.ensures c.loop-item.invariant
