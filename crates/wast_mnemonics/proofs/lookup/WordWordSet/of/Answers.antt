use Rattle.std.proofs.Common.{option_map, slice_get, ap, ◌∙◌}
use Rattle.wast_mnemonics.specs.Rows.{row_number, word_in}
use Rattle.wast_mnemonics.specs.Words.{entry_of}
use Rattle.wast_mnemonics.proofs.Rows.{looked_up}
use Rattle.wast_mnemonics.proofs.lookup.WordWordSet.of.Goals as goal

pub returns : goal.returns
returns c =
    let t = c.args.text.now in
    ap (option_map entry_of) (c.find_row.ensures ∙ ap (λ rows. word_in t (slice_get rows (row_number t))) c.rows.ensures) ∙ looked_up t
