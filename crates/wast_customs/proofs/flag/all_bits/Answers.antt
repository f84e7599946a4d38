use Rattle.std.proofs.Common.{sym, ◌∙◌, arith}
use Rattle.wast_customs.proofs.Flags.{one_more, all_joined}
use Rattle.wast_customs.proofs.flag.all_bits.Goals as goal

pub loop-flag-preserved : goal.loop-flag-preserved
loop-flag-preserved c = one_more (λ f. f.bits) c.loop-flag.bits c.loop-flag.flag-index (record { bits = 0 }) c.args.flags.now (omega arith) ∙ c.loop-flag.invariant

pub returns : goal.returns
returns c = sym (all_joined (λ f. f.bits) c.loop-flag.bits c.loop-flag.flag-index c.args.flags.now (omega arith)) ∙ c.loop-flag.invariant
