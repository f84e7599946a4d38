use Rattle.std.proofs.Common.{[], ◌∷◌, ap, sym, ◌∙◌, subst}
use Rattle.wast_parser.specs.Identifiers.{index_tree}
use Rattle.wast_meaning.specs.Mentions.{Refers}
use Rattle.wast_meaning.specs.Views.{space_view}
use Rattle.wast_mentions.proofs.Judging.{indices_seen, unmet, each_goes, each_ends, each_stops}
use Rattle.wast_mentions.proofs.tell.tell_indices.Goals as goal

pub loop-index-preserved : goal.loop-index-preserved
loop-index-preserved g c =
    let j = g.J.Judgement in
    let asks = j.asks c.args.judge.now in
    each_goes asks j.holds j.tells (λ x. Refers (space_view c.args.space) (index_tree x) ∷ []) _ _ _ c.loop-index-test.true c.index-item.is c.in-Ok.ensures c.loop-index.invariant

pub returns : goal.returns
returns g c =
    let j = g.J.Judgement in
    let asks = j.asks c.args.judge.now in
    let seen = indices_seen (Refers (space_view c.args.space)) index_tree c.args.indices.now in
    ap (unmet asks j.holds j.tells) (sym seen) ∙ each_ends asks j.holds j.tells (λ x. Refers (space_view c.args.space) (index_tree x) ∷ []) _ _ c.loop-index-test.false c.loop-index.invariant

pub returns-in-Err : goal.returns-in-Err
returns-in-Err g c =
    let j = g.J.Judgement in
    let asks = j.asks c.args.judge.now in
    let seen = indices_seen (Refers (space_view c.args.space)) index_tree c.args.indices.now in
    subst (λ ms. j.tells (unmet asks j.holds j.tells ms) c.in-Err.fault) seen
    (each_stops asks j.holds j.tells (λ x. Refers (space_view c.args.space) (index_tree x) ∷ []) j.anywhere _ _ _ _ c.loop-index-test.true c.index-item.is c.in-Err.ensures c.loop-index.invariant)
