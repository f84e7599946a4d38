use Rattle.std.proofs.Common.{◌≡◌, [], ◌∷◌, map, take, drop}
use Rattle.wast_core_instr.specs.InstructionViews.{instruction_tree}
use Rattle.wast_names.specs.Walk.{reached}
use Rattle.wast_names.specs.Views.{space}
use Rattle.wast_meaning.specs.Changed.{instrs_changed}
use Rattle.wast_meaning.specs.Scope.{open_labels}
use Rattle.wast_numbered.specs.Place.{by_place}
use Rattle.wast_numbered.proofs.body.number_instructions.Given as goal

abbrev pub invariant-loop-instr : goal.invariant-loop-instr
invariant-loop-instr l = record {
  made : map instruction_tree (take l.instr-index l.instrs) ≡ instrs_changed (by_place l.spaces (space l.locals)) [] (map instruction_tree (take l.instr-index l.fn.instrs));
  rest : drop l.instr-index l.instrs ≡ drop l.instr-index l.fn.instrs;
  labels : l.labels ≡ open_labels (reached (λ before i. i ∷ before) [] (map instruction_tree (take l.instr-index l.fn.instrs)));
}
