use Rattle.std.proofs.Common.{sym, ◌∙◌, map}
use Rattle.std.specs.List.{flat_map}
use Rattle.wast_grammar.specs.Spelling.{same_name}
use Rattle.wast_fields.specs.FuncViews.{local_tree}
use Rattle.wast_meaning.specs.Demands.{mention_demands}
use Rattle.wast_meaning.specs.Mentions.{local_mentions, val_mentions}
use Rattle.wast_bound.specs.Bound.{are_kept}
use Rattle.wast_bound.proofs.Walked.{all_goes, all_ends}
use Rattle.wast_bound.proofs.body.are_locals_bound.Goals as goal

pub loop-local-preserved : goal.loop-local-preserved
loop-local-preserved g c =
    let asks = mention_demands same_name (g.K.Known.scope c.args.known) in
    all_goes asks (λ l. val_mentions l.val_type) local_tree c.args.locals.now c.loop-local.local-index c.local-item.result
    (are_kept (flat_map asks (local_mentions (map local_tree c.args.locals.now)))) c.loop-local-test.true c.local-item.is (sym c.if-not-is_type_bound.false ∙ c.is_type_bound.ensures) c.loop-local.invariant

pub returns : goal.returns
returns g c =
    let asks = mention_demands same_name (g.K.Known.scope c.args.known) in
    all_ends asks (λ l. val_mentions l.val_type) local_tree c.args.locals.now c.loop-local.local-index (are_kept (flat_map asks (local_mentions (map local_tree c.args.locals.now)))) c.loop-local-test.false c.loop-local.invariant
