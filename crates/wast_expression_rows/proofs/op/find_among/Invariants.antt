use Rattle.std.proofs.Common.{◌≡◌, map, drop}
use Rattle.wast_grammar.specs.Spelling.{find_by}
use Rattle.wast_expression_rows.specs.Ops.{mnemonic_text}
use Rattle.wast_expression_rows.proofs.OpLaws.{word}
use Rattle.wast_expression_rows.proofs.op.find_among.Given as goal

abbrev pub invariant-loop-mnemonic : goal.invariant-loop-mnemonic
invariant-loop-mnemonic l = find_by word l.text (map mnemonic_text (drop l.mnemonic-index l.mnemonics)) ≡ find_by word l.text (map mnemonic_text l.mnemonics)
