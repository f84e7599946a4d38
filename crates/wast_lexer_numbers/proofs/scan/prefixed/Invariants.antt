use Rattle.std.proofs.Common.{◌≡◌, length}
use Rattle.wast_lexer_numbers.specs.NumberScan.{prefixed}
use Rattle.wast_lexer_numbers.proofs.scan.prefixed.Given as goal

abbrev pub invariant-bytes : goal.invariant-bytes
invariant-bytes l = prefixed l.bytes l.text ≡ prefixed l.left l.rest

abbrev pub decreases-bytes : goal.decreases-bytes
decreases-bytes l = length l.rest
