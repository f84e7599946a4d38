use Rattle.std.proofs.Common.{ap, sym, ◌∙◌, subst, refl}
use Rattle.std.specs.List.{flat_map}
use Rattle.wast_module_fields.specs.FuncViews.{local_tree}
use Rattle.wast_meaning.specs.Mentions.{val_mentions}
use Rattle.wast_names.specs.Walk.{first_unmet}
use Rattle.wast_names.specs.Demand.{is_met, Refuses}
use Rattle.wast_mentions.proofs.Judging.{each_goes, each_ends, each_stops, each_seen}
use Rattle.wast_scopes.specs.Known.{mention_by}
use Rattle.wast_scopes.specs.Views.{known, Refused, refused_anywhere}
use Rattle.wast_scopes.proofs.body.check_local_types.Goals as goal

pub loop-local-preserved : goal.loop-local-preserved
loop-local-preserved c =
    each_goes (mention_by (known c.args.scope.now)) is_met Refused (λ x. val_mentions (local_tree x).val_type) c.args.locals.now c.loop-local.local-index c.local-item.result c.loop-local-test.true c.local-item.is c.in-Ok.ensures c.loop-local.invariant

pub returns : goal.returns
returns c =
    let k = known c.args.scope.now in
    ap (λ ms. first_unmet is_met (flat_map (mention_by k) ms)) (sym (each_seen (λ l. val_mentions l.val_type) local_tree c.args.locals.now c.args.locals.now refl))
    ∙ each_ends (mention_by k) is_met Refused (λ x. val_mentions (local_tree x).val_type) c.args.locals.now c.loop-local.local-index c.loop-local-test.false c.loop-local.invariant

pub returns-in-Err : goal.returns-in-Err
returns-in-Err c =
    let k = known c.args.scope.now in
    subst (λ ms. Refuses (flat_map (mention_by k) ms) c.in-Err.e) (each_seen (λ l. val_mentions l.val_type) local_tree c.args.locals.now c.args.locals.now refl)
    (each_stops (mention_by k) is_met Refused (λ x. val_mentions (local_tree x).val_type) refused_anywhere c.in-Err.e c.args.locals.now c.loop-local.local-index c.local-item.result c.loop-local-test.true c.local-item.is c.in-Err.ensures c.loop-local.invariant)
