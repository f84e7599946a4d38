use Rattle.std.proofs.Common.{◌+◌, map}
use Rattle.wast_implied.specs.Views.{implied_tree}
use Rattle.wast_implied.proofs.gathered.Implied.grow_with.Goals as goal

pub returns : goal.returns
returns c = λ i. record {
  types = record { count = (c.bind_first.ensures.count i) + 1; look = λ s. c.in_ok-bind_first.ensures.look s i };
  implied = map implied_tree (c.bind_first.ensures.types i).items;
}
