use Rattle.std.proofs.Common.{◌≡◌, ◌<◌, ◌+◌, ◌*◌, ◌%◌, drop}
use Rattle.std.specs.List.{fold}
use Rattle.wast_mnemonics.specs.Rows.{hash}
use Rattle.wast_mnemonics.proofs.slots.hash.Given as goal

abbrev pub invariant-loop-byte : goal.invariant-loop-byte
invariant-loop-byte l = (l.hash < 65536) × (fold (λ h byte. (h * 33 + byte) % 65536) l.hash (drop l.byte-index l.text) ≡ hash l.text)
