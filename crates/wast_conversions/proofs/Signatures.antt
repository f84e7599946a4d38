-- A function type is told by its parameters and results.
use Rattle.std.proofs.Common.{◌≡◌, List, map, ap, ◌∙◌}
use Rattle.std.specs.Prelude.{Result, Ok, Err, IfOk}
use Rattle.wasm_encoder_base.specs.Views.{val_view, func_params, func_results, func_view}
use Rattle.wasm_encoder_base.specs.declared.types.FuncType.{FuncType}
use Rattle.wasm_encoder_base.specs.declared.types.ValType.{ValType}
use Rattle.wast_signatures.specs.TypeTree.{Sig}
use Rattle.wast_conversions.specs.Types.{val_meant, func_meant}

pub of_parts : {N P E : Type 0} (s : Sig N P) (r : Result FuncType E) (params results : List ValType) → IfOk r (λ f. func_params f ≡ params) → IfOk r (λ f. func_results f ≡ results)
    → map val_view params ≡ map (λ p. val_meant p.val_type) s.params → map val_view results ≡ map val_meant s.results → IfOk r (λ f. func_view f ≡ func_meant s)
of_parts s (Ok f) params results p q a b = λ t. record { params = (ap (map val_view) p ∙ a) t; results = (ap (map val_view) q ∙ b) t }
of_parts s (Err e) params results p q a b = tt
