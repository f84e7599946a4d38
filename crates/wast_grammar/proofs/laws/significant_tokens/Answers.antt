use Rattle.wast_grammar.proofs.SignificantLaws.{shown_law, significant_law}
use Rattle.wast_grammar.proofs.laws.significant_tokens.Goals as goal

pub returns-clause-shown : goal.returns-clause-shown
returns-clause-shown c = shown_law

pub returns-clause-whole : goal.returns-clause-whole
returns-clause-whole c = significant_law
