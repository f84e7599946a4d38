use Rattle.wast_scopes.specs.Known.{mention_by}
use Rattle.wast_scopes.specs.Views.{known_here}
use Rattle.wast_scopes.proofs.Judged.{judged_one}
use Rattle.wast_scopes.proofs.place.PlaceJudge.judge.Goals as goal

pub returns-in-Refers : goal.returns-in-Refers
returns-in-Refers c = rw (c.in-Refers.is) (judged_one (mention_by (known_here c.args.self.now)) c.check_index.result _ c.check_index.ensures)

pub returns-in-Member : goal.returns-in-Member
returns-in-Member c = rw (c.in-Member.is) (judged_one (mention_by (known_here c.args.self.now)) c.check_member.result _ c.check_member.ensures)

pub returns-in-Uses : goal.returns-in-Uses
returns-in-Uses c = rw (c.in-Uses.is) (judged_one (mention_by (known_here c.args.self.now)) c.check_use.result _ c.check_use.ensures)

pub returns-in-UsesInBlock : goal.returns-in-UsesInBlock
returns-in-UsesInBlock c = rw (c.in-UsesInBlock.is) (judged_one (mention_by (known_here c.args.self.now)) c.check_use-in-UsesInBlock.result _ c.check_use-in-UsesInBlock.ensures)

pub returns-in-Repeats : goal.returns-in-Repeats
returns-in-Repeats c = rw (c.in-Repeats.is) (judged_one (mention_by (known_here c.args.self.now)) c.check_repeated.result _ c.check_repeated.ensures)
