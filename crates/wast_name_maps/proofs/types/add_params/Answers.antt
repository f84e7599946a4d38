use Rattle.std.proofs.lemmas.Result.{err_from_is_err_and}
use Rattle.wast_signatures.specs.SignatureViews.{param_tree}
use Rattle.wast_name_maps.specs.Given.{given}
use Rattle.wast_spaces.proofs.Written.{each_one}
use Rattle.wast_name_maps.proofs.Joining.{joined_all, joined_more, unfit_at}
use Rattle.wast_name_maps.proofs.Gathering.{param_names}
use Rattle.wast_name_maps.proofs.types.add_params.Goals as goal

pub returns-in_err-add_given : goal.returns-in_err-add_given
returns-in_err-add_given c =
    let p = err_from_is_err_and c.from_residual.result c.from_residual.ensures.1 in
    rw (p.1, p.2) (
    unfit_at param_names c.args.names.now c.loop-param.names c.args.params.now c.loop-param.param-index c.param-item.result _ _ c.loop-param-test.true c.param-item.is
    (each_one param_tree (λ l. given l.given l.id) c.args.params.now) c.loop-param.invariant c.in_err-add_given.ensures
    )

pub loop-param-preserved : goal.loop-param-preserved
loop-param-preserved c =
    joined_more param_names c.args.names.now c.loop-param.names c.add_given.new.names c.args.params.now c.loop-param.param-index c.param-item.result c.loop-param-test.true c.param-item.is
    c.loop-param.invariant c.in_ok-add_given.ensures

pub returns : goal.returns
returns c =
    joined_all param_names c.args.names.now c.loop-param.names c.args.params.now c.loop-param.param-index _ c.loop-param-test.false (each_one param_tree (λ l. given l.given l.id) c.args.params.now) c.loop-param.invariant
