use Rattle.std.proofs.Common.{◌≡◌, ◌++◌, take, All}
use Rattle.std.specs.List.{flat_map}
use Rattle.wasm_encoder_base.specs.Instr.{IsInstr}
use Rattle.wast_core_instr.specs.InstructionViews.{instruction_tree}
use Rattle.wast_conversions.specs.Instructions.{instr_meant}
use Rattle.wast_conversions.specs.Rows.{bytes_meant, FitsMeant}
use Rattle.wast_section_items.proofs.body.push_instructions.Given as goal

abbrev pub invariant-loop-instr : goal.invariant-loop-instr
invariant-loop-instr l = record {
  spelled : l.body ≡ l.initial.body ++ flat_map bytes_meant (take l.instr-index l.instrs);
  fits : All FitsMeant (take l.instr-index l.instrs);
  sound : All (λ i. IsInstr (instr_meant (instruction_tree i))) (take l.instr-index l.instrs);
}
