use Rattle.std.proofs.Common.{◌≡◌, drop}
use Rattle.wast_operands.specs.OperandSyntax.{are_digits}
use Rattle.wast_operands.proofs.Digits.{may_end}
use Rattle.wast_operands.proofs.number.are_digits.Given as goal

abbrev pub invariant-loop-byte : goal.invariant-loop-byte
invariant-loop-byte l = may_end l.hex l.behind_digit (drop l.byte-index l.text) ≡ are_digits l.hex l.text
