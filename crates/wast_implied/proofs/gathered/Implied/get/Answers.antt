use Rattle.std.proofs.Common.{◌∙◌}
use Rattle.wast_implied.proofs.Binds.{at_shape}
use Rattle.wast_implied.proofs.gathered.Implied.get.Goals as goal

pub returns : goal.returns
returns c = c.copied.ensures ∙ c.get.ensures.value ∙ at_shape c.args.self.now.numbers.entries c.args.key.now
