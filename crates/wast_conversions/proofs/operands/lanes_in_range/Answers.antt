use Rattle.std.proofs.Common.{◌<◌, arith}
use Rattle.std.proofs.lemmas.List.Elements.{recursion_from_All, All-from_get_or}
use Rattle.wast_conversions.proofs.operands.lanes_in_range.Goals as goal

pub returns : goal.returns
returns c =
    recursion_from_All (λ n. n < 256) c.args.lanes.now (All-from_get_or (λ n. n < 256) c.args.lanes.now 0 (λ k l. omega (arith, c.type_inv.lanes k)))
