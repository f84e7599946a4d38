use Rattle.std.proofs.Common.{◌+◌, ◌++◌, ◌∷◌, [], arith}
use Rattle.std.proofs.lemmas.Grind.{common_steps}
use Rattle.std.proofs.lemmas.List.{append_assoc}
use Rattle.wasm_encoder_bytes.proofs.LebSteps.{leb-more, leb-last}
use Rattle.wasm_encoder_bytes.proofs.leb.put_leb.Goals as goal

pub loop-rest-preserved : goal.loop-rest-preserved
loop-rest-preserved c =
    let e = leb-more c.args.flip c.args.limit c.loop-rest.rest (omega arith) (omega arith) in
    record {
      same = grind (arith, common_steps, append_assoc);
      grown = (c.loop-rest.invariant.grown.0 ++ (128 + c.seven.result) ∷ [], grind (arith, common_steps, append_assoc));
    }

pub returns-clause-ok : goal.returns-clause-ok
returns-clause-ok c =
    let e = leb-last c.args.flip c.args.limit c.loop-rest.rest (omega arith) in
    grind (arith, common_steps)
