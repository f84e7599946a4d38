use Rattle.std.proofs.Common.{map}
use Rattle.std.proofs.lemmas.Result.{err_from_is_err_and}
use Rattle.wast_signatures.specs.SignatureViews.{use_tree}
use Rattle.wast_module_fields.specs.FuncViews.{local_tree}
use Rattle.wast_name_maps.specs.Given.{local_names}
use Rattle.wast_name_maps.specs.Locals.{params_by}
use Rattle.wast_name_maps.proofs.Joining.{built_back, built_both, built_front}
use Rattle.wast_name_maps.proofs.locals.names_of_locals.Goals as goal

pub returns-in_err-add_use : goal.returns-in_err-add_use
returns-in_err-add_use c =
    let params = params_by c.args.counts.now (use_tree c.args.ty.now) in
    let locals = local_names (map local_tree c.args.locals.now) in
    let p = err_from_is_err_and c.from_residual.result c.from_residual.ensures.1 in
    rw (p.1, p.2) (built_front c.new-names.result params locals _ c.new-names.ensures c.in_err-add_use.ensures)

pub returns-in_err-add_locals : goal.returns-in_err-add_locals
returns-in_err-add_locals c =
    let params = params_by c.args.counts.now (use_tree c.args.ty.now) in
    let locals = local_names (map local_tree c.args.locals.now) in
    let p = err_from_is_err_and c.from_residual-in_err-add_locals.result c.from_residual-in_err-add_locals.ensures.1 in
    rw (p.1, p.2) (built_back c.new-names.result c.add_use.new.names params locals _ c.new-names.ensures c.in_ok-add_use.ensures c.in_err-add_locals.ensures)

pub returns : goal.returns
returns c =
    let params = params_by c.args.counts.now (use_tree c.args.ty.now) in
    let locals = local_names (map local_tree c.args.locals.now) in
    built_both c.new-names.result c.add_use.new.names c.add_locals.new.names params locals c.new-names.ensures c.in_ok-add_use.ensures c.in_ok-add_locals.ensures
