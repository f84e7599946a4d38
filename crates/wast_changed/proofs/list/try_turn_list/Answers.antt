use Rattle.wast_changed.proofs.InPlace.{turned_more, rest_more}
use Rattle.wast_changed.proofs.list.try_turn_list.Goals as goal

pub loop-item-preserved : goal.loop-item-preserved
loop-item-preserved g c =
    let items = c.loop-item.items in
    let old = c.args.items.now in
    let i = c.loop-item.item-index in
    let x = c.item-item.result in
    let within = c.loop-item-test.true in
    let rest = c.loop-item.invariant.rest in
    record {
      made = turned_more items old i x within rest g.E.TryEach.tree (g.E.TryEach.turned c.args.each.now) c.loop-item.invariant.made c.try_turn.new.item c.in_ok-try_turn.ensures;
      rest = rest_more items old i x within rest c.try_turn.new.item;
    }
