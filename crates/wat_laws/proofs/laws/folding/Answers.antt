use Rattle.wat_laws.proofs.FlatTexts.{each_flat}
use Rattle.wat_laws.proofs.Folding.{folding}
use Rattle.wat_laws.proofs.laws.folding.Goals as goal

pub returns-clause-worth : goal.returns-clause-worth
returns-clause-worth c = folding c.every_word.ensures

pub returns-clause-flat : goal.returns-clause-flat
returns-clause-flat c = λ e ts s none. each_flat c.every_word.ensures e ts s none
