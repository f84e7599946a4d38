use Rattle.wast_mnemonics.proofs.Rows.{every_word}
use Rattle.wast_mnemonics.proofs.laws.every_word.Goals as goal

pub returns : goal.returns
returns c = every_word
