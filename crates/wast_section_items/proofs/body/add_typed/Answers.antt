use Rattle.std.proofs.Common.{map}
use Rattle.wasm_encoder_base.specs.Views.{val_view}
use Rattle.wast_section_items.proofs.Bodies.{adds_body, no_body}
use Rattle.wast_section_items.proofs.body.add_typed.Goals as goal

pub returns-in-Ok : goal.returns-in-Ok
returns-in-Ok c = λ n. adds_body n (map val_view c.args.types.now) c.args.expression.now.instrs.items _ _ _ c.add_body.result c.in-Ok.ensures.same.ok c.in-Ok.ensures.same.fit (c.requires.types, c.in-Ok.ensures.sound) c.add_body.ensures

pub returns-in-Err : goal.returns-in-Err
returns-in-Err c = λ n. no_body n (map val_view c.args.types.now) c.args.expression.now.instrs.items _ c.in-Err.e c.in-Err.ensures.same
