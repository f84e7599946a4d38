use Rattle.std.proofs.Common.{◌∙◌, ap, cond, Some}
use Rattle.wast_parser.specs.Tokens.{Name}
use Rattle.wast_names.specs.Views.{space, borne}
use Rattle.wast_names.proofs.Order.{same_in_order}
use Rattle.wast_names.proofs.namespace.Namespace.bind.Goals as goal

pub returns-clause-bound : goal.returns-clause-bound
returns-clause-bound c =
    let n : Name = (c.args.id.name, c.args.id.generation) in
    let old = space c.args.self.now in
    λ i. record {
      count = c.args.self.now.count;
      look = λ q. (c.in_ok-insert.ensures.updates.0 (borne q) ∙ ap (λ t. cond t (Some c.args.number) (old.look q)) (same_in_order n q)) i;
    }
