use Rattle.std.proofs.Common.{ap, get_or, ◌%◌, ◌/◌, ◌+◌}
use Rattle.wast_mnemonics.specs.Rows.{row_number}
use Rattle.wast_mnemonics.specs.declared.slots.TheConstants.{SHIFTS, SLOTS}
use Rattle.wast_mnemonics.proofs.slots.row_number.Goals as goal

pub returns : goal.returns
unfolding row_number
returns c = ap (λ h. get_or SLOTS ((h / 256 + get_or SHIFTS (h % 256) 0) % 1024) 0) c.hash-hash.ensures
