use Rattle.std.proofs.Common.{◌∙◌}
use Rattle.wast_grammar.specs.Spelling.{same_name}
use Rattle.wast_meaning.specs.Demands.{says_demands}
use Rattle.wast_bound.proofs.Kept.{judged_one}
use Rattle.wast_bound.proofs.place.SaidJudge.judge.Goals as goal

pub returns-in-Refers : goal.returns-in-Refers
returns-in-Refers g c = rw (c.in-Refers.is) (judged_one (says_demands same_name (g.K.Known.scope c.args.self.now.known)) c.answer.result _ (c.answer.ensures ∙ c.is_bound.ensures))

pub returns-in-Member : goal.returns-in-Member
returns-in-Member g c = rw (c.in-Member.is) (judged_one (says_demands same_name (g.K.Known.scope c.args.self.now.known)) c.answer-in-Member.result _ (c.answer-in-Member.ensures ∙ c.is_member_bound.ensures))
