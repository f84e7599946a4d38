use Rattle.std.proofs.Common.{◌≡◌, ◌+◌, ◌<◌, ◌^◌, ◌++◌, length, map, take, flat_map}
use Rattle.std.specs.List.{range_with_len}
use Rattle.wast_conversions.specs.Rows.{bytes_meant}
use Rattle.wast_custom_sections.proofs.bodies.put_instructions.Given as goal

abbrev pub invariant-loop-instr : goal.invariant-loop-instr
invariant-loop-instr l = record {
  spelled : l.body ≡ l.initial.body ++ flat_map bytes_meant (take l.instr-index l.instrs);
  places : l.places.items ≡ l.initial.places.items ++ map (λ k. length l.initial.body + length (flat_map bytes_meant (take k l.instrs))) (range_with_len 1 l.instr-index);
  fits : length l.body < 2 ^ 32;
}
