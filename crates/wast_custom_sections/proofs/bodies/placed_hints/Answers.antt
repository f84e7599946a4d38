use Rattle.std.proofs.Common.{◌∙◌, length, map, ap, arith}
use Rattle.wast_expressions.specs.Partial.{hint_tree}
use Rattle.wast_core_instr.specs.ExpressionViews.{expression_tree}
use Rattle.wast_module_fields.specs.FuncViews.{local_tree}
use Rattle.wast_custom_sections.specs.Hinted.{places_of, among, body_meant}
use Rattle.wast_custom_sections.proofs.Begin.{places_count, all_among}
use Rattle.wast_custom_sections.proofs.bodies.placed_hints.Goals as goal

pub at_places-requires : goal.at_places-requires
at_places-requires c =
    let b = body_meant (map local_tree c.args.locals.now) (expression_tree c.args.expression.now) in
    let same = ap length (c.deref-2.ensures.value ∙ c.in_ok-places.ensures.places) in
    omega (arith, places_count b)

pub returns-clause-placed : goal.returns-clause-placed
returns-clause-placed c =
    let e = expression_tree c.args.expression.now in
    let b = body_meant (map local_tree c.args.locals.now) e in
    c.in_ok-hints.ensures
    ∙ ap (λ ps. map (among ps) (map hint_tree c.deref.result.now)) (c.deref-2.ensures.value ∙ c.in_ok-places.ensures.places)
    ∙ ap (λ hs. map (among (places_of b)) (map hint_tree hs)) c.deref.ensures.value
    ∙ all_among b e.hints
