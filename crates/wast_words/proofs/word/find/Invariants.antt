use Rattle.std.proofs.Common.{◌≡◌, map, drop}
use Rattle.wast_parser.specs.Spelling.{find_by}
use Rattle.wast_words.proofs.word.find.Given as goal

abbrev pub invariant-loop-value : goal.invariant-loop-value
invariant-loop-value g l = find_by (λ e. e.0) l.text (map g.T.Written.entry (drop l.value-index l.values)) ≡ find_by (λ e. e.0) l.text (map g.T.Written.entry l.values)
