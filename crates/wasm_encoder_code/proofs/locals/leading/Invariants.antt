use Rattle.std.proofs.Common.{◌≡◌, ◌+◌, drop, map}
use Rattle.wasm_encoder_base.specs.Views.{val_view}
use Rattle.wasm_encoder_code.specs.Locals.{leading}
use Rattle.wasm_encoder_code.proofs.locals.leading.Given as goal

abbrev pub invariant-loop-local : goal.invariant-loop-local
invariant-loop-local l = record {
  index : l.count ≡ l.local-index;
  rest : leading (val_view l.val_type) (map val_view l.locals) ≡ l.count + leading (val_view l.val_type) (map val_view (drop l.local-index l.locals));
}
