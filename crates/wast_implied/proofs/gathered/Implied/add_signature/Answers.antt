use Rattle.std.proofs.Common.{◌≡◌, [], ◌∷◌, ◌++◌, map, Some, is_some, ap, sym, ◌∙◌, arith}
use Rattle.std.proofs.lemmas.Grind.{common_steps}
use Rattle.std.proofs.lemmas.List.{map-append}
use Rattle.std.proofs.lemmas.Result.{on_ok_weaker}
use Rattle.wast_names.specs.Space.{grown}
use Rattle.wast_signatures.specs.SignatureViews.{sig_tree}
use Rattle.wast_implied.specs.declared.gathered.ImpliedType.{ImpliedType}
use Rattle.wast_implied.specs.Shapes.{same_shape}
use Rattle.wast_implied.specs.Views.{known, implied_tree}
use Rattle.wast_implied.proofs.Instructions.{taken_before, taken_now}
use Rattle.wast_implied.proofs.gathered.Implied.add_signature.Goals as goal

pub returns-then-is_some : goal.returns-then-is_some
returns-then-is_some c =
    let k = known c.args.self.now in
    taken_before k (c.args.span, sig_tree c.args.signature.now) (ap (λ s. is_some (k.types.look s)) (sym c.in_ok-key.ensures) ∙ ap is_some (sym c.get.ensures) ∙ sym c.is_some.ensures ∙ c.if-is_some.true)

pub returns : goal.returns
returns c =
    let old = c.args.self.now in
    let k = known old in
    let x : ImpliedType = record { span = c.args.span; signature = c.in_ok-signature.signature } in
    let pushed : c.push.new.self.items ≡ old.types.items ++ x ∷ [] = grind (arith, common_steps) in
    let added = ap (map implied_tree) pushed ∙ map-append implied_tree old.types.items (x ∷ []) ∙ ap (λ s. map implied_tree old.types.items ++ (c.args.span, s) ∷ []) c.in_ok-signature.ensures in
    on_ok_weaker c.grow.result (λ e. e
    ∙ (λ i. record { types = grown same_shape k.types (Some (c.in_ok-key.ensures i)); implied = added i })
    ∙ taken_now k (c.args.span, sig_tree c.args.signature.now) (ap (λ s. is_some (k.types.look s)) (sym c.in_ok-key.ensures) ∙ ap is_some (sym c.get.ensures) ∙ sym c.is_some.ensures ∙ c.if-is_some.false)) c.grow.ensures
