use Rattle.std.proofs.Common.{◌≡◌, false, sym, ◌∙◌, arith, rules}
use Rattle.wast_value_types.specs.ValueViews.{val_tree}
use Rattle.wast_names.specs.Views.{space}
use Rattle.wast_scopes.specs.Numbered.{numbered_value}
use Rattle.wast_scopes.proofs.Pairs.{alike, result_value, two_views, alike_stops, alike_ends}
use Rattle.wast_scopes.proofs.numbered.are_results.Goals as goal

pub returns : goal.returns
returns c =
    let seen = result_value (space c.args.types.now).look in
    let xs = c.args.results.now in
    let ys = c.args.numbered.now in
    rw (c.loop-ty.invariant.at) (alike_ends seen xs ys c.loop-ty.ty-index (alike seen xs ys) c.loop-ty-test.false (search rules) c.loop-ty.invariant.rest ∙ two_views (numbered_value (space c.args.types.now).look) val_tree c.args.results.now ys)

pub returns-then-not-is_type : goal.returns-then-not-is_type
returns-then-not-is_type c =
    let seen = result_value (space c.args.types.now).look in
    let xs = c.args.results.now in
    let ys = c.args.numbered.now in
    let i = c.loop-ty.ty-index in
    let other : c.is_type.result ≡ false = search rules in
    alike_stops seen xs ys i c.ty-item.result _ (alike seen xs ys) c.loop-ty-test.true c.ty-item.is (omega (arith, c.if-index-numbered.false, c.loop-ty.invariant.at)) (search rules) (sym c.is_type.ensures ∙ other) c.loop-ty.invariant.rest ∙ two_views (numbered_value (space c.args.types.now).look) val_tree xs ys
