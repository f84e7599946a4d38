use Rattle.wasm_encoder_base.proofs.Entries.{uncovered_distinct, uncovered_unlisted}
use Rattle.wasm_encoder_base.proofs.laws.distinct_uncovered.Goals as goal

pub returns : goal.returns
returns c = record { mnemonics = uncovered_distinct; unlisted = uncovered_unlisted }
