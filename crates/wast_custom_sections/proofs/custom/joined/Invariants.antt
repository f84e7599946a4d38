use Rattle.std.proofs.Common.{◌≡◌, take, flat_map}
use Rattle.wast_custom_sections.proofs.custom.joined.Given as goal

abbrev pub invariant-loop-string : goal.invariant-loop-string
invariant-loop-string l = l.bytes.items ≡ flat_map (λ bytes. bytes) (take l.string-index l.strings)
