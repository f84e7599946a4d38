use Rattle.wast_binary.proofs.PutLists.{list_put, none_put}
use Rattle.wast_binary.proofs.sections.put_codes.Goals as goal

pub returns-in-Ok : goal.returns-in-Ok
returns-in-Ok c = list_put _ _ _ _ _ _ _ _ _ c.put_unless_empty.result c.in-Ok.ensures c.is_empty.ensures c.put_unless_empty.ensures

pub returns-in-Err : goal.returns-in-Err
returns-in-Err c = none_put _ _ _ _ _ _ _ c.in-Err.ensures
