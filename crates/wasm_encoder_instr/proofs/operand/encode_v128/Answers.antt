use Rattle.std.proofs.Common.{List, ℕ, ◌++◌, ◌∙◌, subst, ap}
use Rattle.std.proofs.lemmas.Int.{to_z-of_z}
use Rattle.std.specs.Int.{w128, to_le_bytes, cast_unsigned}
use Rattle.wasm_encoder_base.specs.Encodes.{Encodes}
use Rattle.wasm_encoder_instr.proofs.operand.encode_v128.Goals as goal

pub returns : goal.returns
returns g c =
    let encodes : List ℕ → Type 0 = λ bytes. Encodes (g.A.Encode.spelling c.args.opcode.now ++ bytes) (g.A.Encode.fits c.args.opcode.now × Unit {0}) c.args.sink.now.items c.encode_both.new.sink.items c.encode_both.result in
    subst encodes (c.low_bytes_first.ensures ∙ ap (λ z. to_le_bytes w128 (cast_unsigned w128 z)) (to_z-of_z w128 c.args.value c.ranges.value)) c.encode_both.ensures
