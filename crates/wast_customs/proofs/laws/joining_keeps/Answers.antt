use Rattle.wast_customs.proofs.Joins.{all_apart, all_kept}
use Rattle.wast_customs.proofs.laws.joining_keeps.Goals as goal

pub returns-clause-kept : goal.returns-clause-kept
returns-clause-kept c = all_kept

pub returns-clause-apart : goal.returns-clause-apart
returns-clause-apart c = all_apart
