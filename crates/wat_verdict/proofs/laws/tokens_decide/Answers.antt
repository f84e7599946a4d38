use Rattle.wat_verdict.proofs.Alike.{tokens_decide}
use Rattle.wat_verdict.proofs.Spaced.{comments_aside}
use Rattle.wat_verdict.proofs.laws.tokens_decide.Goals as goal

pub returns-clause-tokens : goal.returns-clause-tokens
returns-clause-tokens c = tokens_decide

pub returns-clause-comments : goal.returns-clause-comments
returns-clause-comments c = comments_aside
