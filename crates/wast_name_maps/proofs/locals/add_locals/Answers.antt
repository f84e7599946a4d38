use Rattle.std.proofs.lemmas.Result.{err_from_is_err_and}
use Rattle.wast_module_fields.specs.FuncViews.{local_tree}
use Rattle.wast_name_maps.specs.Given.{given}
use Rattle.wast_spaces.proofs.Written.{each_one}
use Rattle.wast_name_maps.proofs.Joining.{joined_all, joined_more, unfit_at}
use Rattle.wast_name_maps.proofs.Gathering.{local_name}
use Rattle.wast_name_maps.proofs.locals.add_locals.Goals as goal

pub returns-in_err-add_given : goal.returns-in_err-add_given
returns-in_err-add_given c =
    let p = err_from_is_err_and c.from_residual.result c.from_residual.ensures.1 in
    rw (p.1, p.2) (
    unfit_at local_name c.args.names.now c.loop-local.names c.args.locals.now c.loop-local.local-index c.local-item.result _ _ c.loop-local-test.true c.local-item.is
    (each_one local_tree (λ l. given l.given l.id) c.args.locals.now) c.loop-local.invariant c.in_err-add_given.ensures
    )

pub loop-local-preserved : goal.loop-local-preserved
loop-local-preserved c =
    joined_more local_name c.args.names.now c.loop-local.names c.add_given.new.names c.args.locals.now c.loop-local.local-index c.local-item.result c.loop-local-test.true c.local-item.is
    c.loop-local.invariant c.in_ok-add_given.ensures

pub returns : goal.returns
returns c =
    joined_all local_name c.args.names.now c.loop-local.names c.args.locals.now c.loop-local.local-index _ c.loop-local-test.false (each_one local_tree (λ l. given l.given l.id) c.args.locals.now) c.loop-local.invariant
