use Rattle.std.proofs.Common.{◌≡◌, map, drop}
use Rattle.wast_grammar.specs.Spelling.{find_by}
use Rattle.wast_parser_core.proofs.word_set.find_among.Given as goal

abbrev pub invariant-loop-value : goal.invariant-loop-value
invariant-loop-value g l = let s = g.T.Spelled in find_by s.word l.text (map s.entry (drop l.value-index l.values)) ≡ find_by s.word l.text (map s.entry l.values)
