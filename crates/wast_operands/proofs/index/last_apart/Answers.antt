use Rattle.std.proofs.Common.{map, ap, ◌∙◌}
use Rattle.wast_vector_operands.specs.Identifiers.{index_tree}
use Rattle.wast_operands.proofs.Labels.{last_is}
use Rattle.wast_operands.proofs.index.last_apart.Goals as goal

pub returns-in_ok-insert-in-Some : goal.returns-in_ok-insert-in-Some
returns-in_ok-insert-in-Some c =
    ap (λ ls. (map index_tree ls, index_tree c.in-Some.default)) c.in_ok-insert-in-Some.ensures.items
    ∙ last_is index_tree c.args.first c.args.more.items c.pop.new.self.items c.in-Some.default c.in-Some.ensures.items
