use Rattle.wast_scopes.specs.Known.{says_by}
use Rattle.wast_scopes.specs.Views.{known_here}
use Rattle.wast_scopes.proofs.Judged.{judged_one}
use Rattle.wast_scopes.proofs.place.SaidJudge.judge.Goals as goal

pub returns-in-Refers : goal.returns-in-Refers
returns-in-Refers c = rw (c.in-Refers.is) (judged_one (says_by (known_here c.args.self.now.place.now)) c.check_index.result _ c.check_index.ensures)

pub returns-in-Member : goal.returns-in-Member
returns-in-Member c = rw (c.in-Member.is) (judged_one (says_by (known_here c.args.self.now.place.now)) c.check_member.result _ c.check_member.ensures)

pub returns-in-Repeats : goal.returns-in-Repeats
returns-in-Repeats c = rw (c.in-Repeats.is) (judged_one (says_by (known_here c.args.self.now.place.now)) c.check_repeated.result _ c.check_repeated.ensures)
