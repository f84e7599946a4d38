use Rattle.std.proofs.Common.{sym, ◌∙◌}
use Rattle.wast_binary.proofs.CountPut.{needed_put, unneeded_put}
use Rattle.wast_binary.proofs.data_count.put_data_count.Goals as goal

pub returns-then-refer_to_data : goal.returns-then-refer_to_data
returns-then-refer_to_data c = needed_put _ _ _ c.count_of.result _ c.put_count.result (sym c.refer_to_data.ensures ∙ c.if-refer_to_data.true) c.count_of.ensures c.put_count.ensures

pub returns-else-refer_to_data : goal.returns-else-refer_to_data
returns-else-refer_to_data c = unneeded_put _ _ _ (sym c.refer_to_data.ensures ∙ c.if-refer_to_data.false)
