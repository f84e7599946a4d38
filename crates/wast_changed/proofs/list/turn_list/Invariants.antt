use Rattle.std.proofs.Common.{◌≡◌, map, take, drop}
use Rattle.wast_changed.proofs.list.turn_list.Given as goal

abbrev pub invariant-loop-item : goal.invariant-loop-item
invariant-loop-item g l = record {
  made : map g.E.Each.tree (take l.item-index l.items) ≡ map (g.E.Each.turned l.each) (map g.E.Each.tree (take l.item-index l.fn.items));
  rest : drop l.item-index l.items ≡ drop l.item-index l.fn.items;
}
