use Rattle.std.proofs.Common.{◌≡◌, false, sym, ◌∙◌, arith, rules}
use Rattle.wast_signatures.specs.SignatureViews.{param_tree}
use Rattle.wast_names.specs.Views.{space}
use Rattle.wast_scopes.specs.Numbered.{numbered_value}
use Rattle.wast_scopes.proofs.Pairs.{alike, param_value, two_views, alike_stops, alike_ends}
use Rattle.wast_scopes.proofs.numbered.are_params.Goals as goal

pub returns : goal.returns
returns c =
    let seen = param_value (space c.args.types.now).look in
    let xs = c.args.params.now in
    let ys = c.args.numbered.now in
    rw (c.loop-param.invariant.at) (alike_ends seen xs ys c.loop-param.param-index (alike seen xs ys) c.loop-param-test.false (search rules) c.loop-param.invariant.rest ∙ two_views (λ l. numbered_value (space c.args.types.now).look l.val_type) param_tree c.args.params.now ys)

pub returns-then-not-is_type : goal.returns-then-not-is_type
returns-then-not-is_type c =
    let seen = param_value (space c.args.types.now).look in
    let xs = c.args.params.now in
    let ys = c.args.numbered.now in
    let i = c.loop-param.param-index in
    let other : c.is_type.result ≡ false = search rules in
    alike_stops seen xs ys i c.param-item.result _ (alike seen xs ys) c.loop-param-test.true c.param-item.is (omega (arith, c.if-index-numbered.false, c.loop-param.invariant.at)) (search rules) (sym c.is_type.ensures ∙ other) c.loop-param.invariant.rest ∙ two_views (λ l. numbered_value (space c.args.types.now).look l.val_type) param_tree xs ys
