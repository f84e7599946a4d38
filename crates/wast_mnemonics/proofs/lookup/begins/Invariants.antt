use Rattle.std.proofs.Common.{◌≡◌, ◌-◌, drop, take, length}
use Rattle.wast_grammar.specs.Spelling.{same_text}
use Rattle.wast_mnemonics.proofs.lookup.begins.Given as goal

abbrev pub invariant-bytes : goal.invariant-bytes
invariant-bytes l = same_text (drop l.i (take (length l.text) l.bytes)) (drop l.i l.text) ≡ same_text (take (length l.text) l.bytes) l.text

abbrev pub decreases-bytes : goal.decreases-bytes
decreases-bytes l = length l.text - l.i
