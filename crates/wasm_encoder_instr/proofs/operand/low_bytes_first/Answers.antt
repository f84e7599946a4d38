use Rattle.std.proofs.Common.{◌∙◌, ap}
use Rattle.std.proofs.lemmas.Int.{to_z-of_z}
use Rattle.std.specs.Int.{w128, to_le_bytes, cast_unsigned}
use Rattle.wasm_encoder_instr.proofs.operand.low_bytes_first.Goals as goal

pub returns : goal.returns
returns c = c.to_le_bytes.ensures ∙ ap (to_le_bytes w128) (c.cast_unsigned-bits.ensures ∙ ap (cast_unsigned w128) (to_z-of_z w128 c.args.value c.ranges.value))
