use Rattle.std.proofs.Common.{map}
use Rattle.wasm_encoder_base.specs.OperandSyntax.{Functions}
use Rattle.wast_parser.specs.Identifiers.{index_tree}
use Rattle.wast_meaning.specs.Mentions.{Says, Refers}
use Rattle.wast_parts.proofs.Judging.{judged_as_parts}
use Rattle.wast_parts.proofs.said.tell_functions.Goals as goal

pub returns : goal.returns
returns g c =
    let j = g.J.PartJudgement in
    judged_as_parts (j.asks c.args.judge.now) j.holds j.tells Says c.tell_indices.result (map (Refers Functions) (map index_tree c.args.indices.now)) c.tell_indices.ensures
