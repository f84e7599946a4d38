use Rattle.std.proofs.Common.{[], ◌∷◌, ◌++◌, length, map, refl, ap, ◌∙◌, arith}
use Rattle.std.proofs.lemmas.Result.{err_from_is_err_and}
use Rattle.wast_module_fields.specs.FuncViews.{local_tree}
use Rattle.wast_conversions.specs.Types.{val_meant}
use Rattle.wast_custom_sections.proofs.Begin.{all_places, end_fits, end_room}
use Rattle.wast_custom_sections.proofs.Errors.{same_error}
use Rattle.wast_custom_sections.proofs.bodies.places.Goals as goal

pub returns-in_err-body-clause-too_large : goal.returns-in_err-body-clause-too_large
returns-in_err-body-clause-too_large c =
    let r = err_from_is_err_and c.from_residual.result c.from_residual.ensures.1 in
    rw (r.1, r.2) (λ e f. c.in_err-body.ensures.too_large (same_error e) f.locals)

pub returns-in_err-put_place-clause-too_large : goal.returns-in_err-put_place-clause-too_large
returns-in_err-put_place-clause-too_large c =
    let ts = map (λ l. val_meant l.val_type) (map local_tree c.args.locals.now) in
    let is = c.args.expression.now.instrs.items in
    let r = err_from_is_err_and c.from_residual-in_err-put_place.result c.from_residual-in_err-put_place.ensures.1 in
    rw (r.1, r.2) (λ e f. c.in_err-put_place.ensures.too_large (same_error e) (omega (arith, end_room ts is c.in_ok-body.ensures.ok refl f.places)))

pub returns-in_err-put_expression-clause-too_large : goal.returns-in_err-put_expression-clause-too_large
returns-in_err-put_expression-clause-too_large c =
    let ts = map (λ l. val_meant l.val_type) (map local_tree c.args.locals.now) in
    let is = c.args.expression.now.instrs.items in
    let r = err_from_is_err_and c.from_residual-in_err-put_expression.result c.from_residual-in_err-put_expression.ensures.1 in
    rw (r.1, r.2) (λ e f. c.in_err-put_expression.ensures.too_large (same_error e) (end_room ts is c.in_ok-body.ensures.ok refl f.places))

pub returns-clause-places : goal.returns-clause-places
returns-clause-places c =
    let ts = map (λ l. val_meant l.val_type) (map local_tree c.args.locals.now) in
    let is = c.args.expression.now.instrs.items in
    let first = c.in_ok-put_place.ensures.place ∙ ap (λ us. us ++ length c.in_ok-body.body ∷ []) c.new-places.ensures.items in
    all_places ts is c.in_ok-body.ensures.ok refl first c.in_ok-put_expression.ensures.places

pub returns-clause-fits : goal.returns-clause-fits
returns-clause-fits c =
    let ts = map (λ l. val_meant l.val_type) (map local_tree c.args.locals.now) in
    let is = c.args.expression.now.instrs.items in
    record { locals = c.in_ok-body.ensures.fit; places = end_fits ts is c.in_ok-body.ensures.ok refl c.in_ok-put_expression.ensures.fits }
