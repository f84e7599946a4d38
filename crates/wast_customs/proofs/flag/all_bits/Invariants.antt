use Rattle.std.proofs.Common.{◌≡◌, map, drop, bit_or}
use Rattle.wast_customs.specs.DylinkSyntax.{all_flags}
use Rattle.wast_customs.proofs.flag.all_bits.Given as goal

abbrev pub invariant-loop-flag : goal.invariant-loop-flag
invariant-loop-flag l = bit_or l.bits (all_flags (map (λ f. f.bits) (drop l.flag-index l.flags))) ≡ all_flags (map (λ f. f.bits) l.flags)
