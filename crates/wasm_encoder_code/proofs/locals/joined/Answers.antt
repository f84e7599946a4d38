use Rattle.std.proofs.Common.{◌<◌, ◌++◌, ◌∙◌, ◌^◌, map, sym, ap, subst}
use Rattle.std.specs.List.{AllByRecursion}
use Rattle.wasm_encoder_code.specs.Body.{Run}
use Rattle.wasm_encoder_code.specs.Locals.{run_view}
use Rattle.wasm_encoder_code.proofs.Runs.{all_at}
use Rattle.wasm_encoder_code.proofs.locals.joined.Goals as goal

pub returns-in_default-try_from-clause-too_large : goal.returns-in_default-try_from-clause-too_large
returns-in_default-try_from-clause-too_large c = λ _ all. (
    let before = map run_view c.loop-more.runs.items in
    let whole = ap (λ rs. before ++ rs) (sym c.in-Some.ensures.joined) ∙ c.loop-more.invariant.runs in
    c.in_default-try_from.ensures (all_at (λ (r : Run). r.count < 2 ^ 32) before _ _ (subst (AllByRecursion (λ (r : Run). r.count < 2 ^ 32)) (sym whole) all)))
