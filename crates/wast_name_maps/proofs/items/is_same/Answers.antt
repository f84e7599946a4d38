use Rattle.std.proofs.Common.{◌∙◌}
use Rattle.wast_name_maps.proofs.Gathering.{same_spaces}
use Rattle.wast_name_maps.proofs.items.is_same.Goals as goal

pub returns : goal.returns
returns c = c.eq.ensures ∙ same_spaces c.args.one c.args.other
