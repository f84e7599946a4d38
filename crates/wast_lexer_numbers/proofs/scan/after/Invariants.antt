use Rattle.std.proofs.Common.{◌≡◌, length, true}
use Rattle.wast_lexer_numbers.specs.NumberScan.{after}
use Rattle.wast_lexer_numbers.proofs.scan.after.Given as goal

abbrev pub invariant-digits : goal.invariant-digits
invariant-digits l = after l.hex true l.text ≡ after l.hex l.gap l.rest

abbrev pub decreases-digits : goal.decreases-digits
decreases-digits l = length l.rest
