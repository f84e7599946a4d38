use Rattle.std.proofs.Common.{◌≡◌, ◌-◌, ◌≤◌, length, drop, None}
use Rattle.wast_lexer.specs.Scan.{after_word}
use Rattle.wast_lexer.proofs.word.word_end.Given as goal

abbrev pub invariant-parts : goal.invariant-parts
invariant-parts l = record { forward : l.from ≤ l.at; within : l.at ≤ length l.text; rest : after_word None (drop l.from l.text) ≡ after_word None (drop l.at l.text) }

abbrev pub decreases-parts : goal.decreases-parts
decreases-parts l = length l.text - l.at
