use Rattle.std.proofs.Common.{[]}
use Rattle.wast_resolve.proofs.Telling.{items_told}
use Rattle.wast_resolve.proofs.module.no_names.Goals as goal

pub returns : goal.returns
returns c = items_told c.new.result [] c.new.ensures.spaces
