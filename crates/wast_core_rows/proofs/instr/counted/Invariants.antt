use Rattle.wast_core_rows.proofs.instr.counted.Given as goal

abbrev pub ghosts-read_counted : goal.ghosts-read_counted
ghosts-read_counted a = record { name = a.blank.name; parts = a.blank.parts }
