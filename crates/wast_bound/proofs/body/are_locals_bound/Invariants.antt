use Rattle.std.proofs.Common.{◌≡◌, map}
use Rattle.std.specs.List.{flat_map}
use Rattle.wast_grammar.specs.Spelling.{same_name}
use Rattle.wast_fields.specs.FuncViews.{local_tree}
use Rattle.wast_meaning.specs.Demands.{mention_demands}
use Rattle.wast_meaning.specs.Mentions.{local_mentions, val_mentions}
use Rattle.wast_bound.specs.Bound.{are_kept}
use Rattle.wast_bound.proofs.Walked.{all_left}
use Rattle.wast_bound.proofs.body.are_locals_bound.Given as goal

abbrev pub invariant-loop-local : goal.invariant-loop-local
invariant-loop-local g l =
    let asks = mention_demands same_name (g.K.Known.scope l.known) in
    all_left asks (λ x. val_mentions x.val_type) local_tree l.locals l.local-index ≡ are_kept (flat_map asks (local_mentions (map local_tree l.locals)))
