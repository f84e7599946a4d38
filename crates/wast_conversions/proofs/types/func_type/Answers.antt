use Rattle.std.proofs.Common.{◌≡◌, map, ap, subst, ◌∙◌}
use Rattle.std.specs.List.{AllByRecursion}
use Rattle.wasm_encoder_base.specs.Types.{IsValType}
use Rattle.wasm_encoder_base.specs.Views.{val_view}
use Rattle.wast_signatures.specs.SignatureViews.{param_tree, sig_tree}
use Rattle.wast_value_types.specs.ValueViews.{val_tree}
use Rattle.wast_conversions.specs.Types.{val_meant}
use Rattle.wast_conversions.proofs.Each.{anyway}
use Rattle.wast_conversions.proofs.Signatures.{of_parts}
use Rattle.wast_conversions.proofs.types.func_type.Goals as goal

pub returns-clause-same : goal.returns-clause-same
returns-clause-same c =
    let a : map val_view c.deref-3.result.now ≡ map (λ p. val_meant p.val_type) (map param_tree c.args.ty.now.params.items) =
    ap (map val_view) c.deref-3.ensures.value ∙ c.in_ok-params.ensures.same ∙ ap (λ ps. map (λ p. val_meant p.val_type) (map param_tree ps)) c.deref.ensures.value in
    let b : map val_view c.deref-4.result.now ≡ map val_meant (map val_tree c.args.ty.now.results.items) =
    ap (map val_view) c.deref-4.ensures.value ∙ c.in_ok-results.ensures.same ∙ ap (λ ts. map val_meant (map val_tree ts)) c.deref-2.ensures.value in
    of_parts (sig_tree c.args.ty.now) c.new.result c.deref-3.result.now c.deref-4.result.now c.new.ensures.params c.new.ensures.results a b

pub returns-clause-sound : goal.returns-clause-sound
returns-clause-sound c =
    let a = subst (λ ps. AllByRecursion IsValType (map (λ p. val_meant p.val_type) (map param_tree ps))) c.deref.ensures.value c.in_ok-params.ensures.sound in
    let b = subst (λ ts. AllByRecursion IsValType (map val_meant (map val_tree ts))) c.deref-2.ensures.value c.in_ok-results.ensures.sound in
    anyway c.new.result (a, b)
