-- Examples, computed.
use Rattle.std.proofs.Common.{refl}
use Rattle.wasm_encoder_base.specs.Leb.{uleb, sleb, leb, digits}
use Rattle.wast_conversions.specs.Operands.{logarithm}
use Rattle.wast_meant.specs.Examples.{MeaningExamples}
use Rattle.wast_meant.specs.InstructionExamples.{InstructionExamples}
use Rattle.wast_meant.specs.SegmentExamples.{SegmentExamples}
use Rattle.wast_meant.proofs.Stands.{stands, is_module}

pub examples : MeaningExamples
unfolding uleb sleb leb digits logarithm lib.Count.count_trailing_zeros
examples = record {
  nothing = record { is_formed = refl; are_met = refl; is_covered = refl; binary = refl };
  named_function = record { is_formed = refl; are_met = refl; is_covered = refl; binary = refl };
  sum = record { is_formed = refl; are_met = refl; is_covered = refl; binary = refl };
  hint = record { is_formed = refl; are_met = refl; is_covered = refl; binary = refl };
  inline_data = record { is_formed = refl; are_met = refl; is_covered = refl; binary = refl };
  wide_data = record { is_formed = refl; are_met = refl; is_covered = refl; binary = refl };
  data_count = record { is_formed = refl; are_met = refl; is_covered = refl; binary = refl };
  group_of_items = record { is_formed = refl; are_met = refl; is_covered = refl; binary = refl };
  group_of_names = record { is_formed = refl; are_met = refl; is_covered = refl; binary = refl };
  two_implied = record { is_formed = refl; are_met = refl; is_covered = refl; binary = refl };
  shared_implied = record { is_formed = refl; are_met = refl; is_covered = refl; binary = refl };
  catch = record { is_formed = refl; are_met = refl; is_covered = refl; binary = refl };
  custom_before = record { is_formed = refl; are_met = refl; is_covered = refl; binary = refl };
  alignment = record { is_formed = refl; are_met = refl; is_covered = refl; binary = refl };
  least = record { is_formed = refl; are_met = refl; is_covered = refl; binary = refl };
  label = record { is_formed = refl; are_met = refl; is_covered = refl; binary = refl };
  inline_elements = record { is_formed = refl; are_met = refl; is_covered = refl; binary = refl };
  open_type = record { is_formed = refl; are_met = refl; is_covered = refl; binary = refl };
  group = record { is_formed = refl; are_met = refl; is_covered = refl; binary = refl };
  export = record { is_formed = refl; are_met = refl; is_covered = refl; binary = refl };
  block_in_offset = record { is_formed = refl; are_met = refl; is_covered = refl; binary = refl };
  own_names = record { is_formed = refl; are_met = refl; is_covered = refl; binary = refl };
  locals = record { is_formed = refl; are_met = refl; is_covered = refl; binary = refl };
  name_wins = record { is_formed = refl; are_met = refl; is_covered = refl; binary = refl };
  unnamed_import = record { is_formed = refl; are_met = refl; is_covered = refl; binary = refl };
  tag_parameter = record { is_formed = refl; are_met = refl; is_covered = refl; binary = refl };
  producers = record { is_formed = refl; are_met = refl; is_covered = refl; binary = refl };
  dylink = record { is_formed = refl; are_met = refl; is_covered = refl; binary = refl };
  gaps = record { is_formed = refl; are_met = refl; is_covered = refl; binary = refl };
  table_written = record { is_formed = refl; are_met = refl; is_covered = refl; binary = refl };
  table_left_out = record { is_formed = refl; are_met = refl; is_covered = refl; binary = refl };
  float = refl;
  pause = refl;
  continuation = refl;
  inline_exact = refl;
  stands = stands;
  is_module = is_module;
}

pub instructions : InstructionExamples
unfolding uleb sleb leb digits logarithm lib.Count.count_trailing_zeros
instructions = record {
  vector = record { is_formed = refl; are_met = refl; is_covered = refl; binary = refl };
  member = record { is_formed = refl; are_met = refl; is_covered = refl; binary = refl };
  behind_parameters = record { is_formed = refl; are_met = refl; is_covered = refl; binary = refl };
  type_parameter = record { is_formed = refl; are_met = refl; is_covered = refl; binary = refl };
  memory_init = record { is_formed = refl; are_met = refl; is_covered = refl; binary = refl };
  table_init = record { is_formed = refl; are_met = refl; is_covered = refl; binary = refl };
  indirect = record { is_formed = refl; are_met = refl; is_covered = refl; binary = refl };
  copies = record { is_formed = refl; are_met = refl; is_covered = refl; binary = refl };
  other_memory = record { is_formed = refl; are_met = refl; is_covered = refl; binary = refl };
  select = record { is_formed = refl; are_met = refl; is_covered = refl; binary = refl };
  branch_table = record { is_formed = refl; are_met = refl; is_covered = refl; binary = refl };
  delegate = record { is_formed = refl; are_met = refl; is_covered = refl; binary = refl };
  casts = record { is_formed = refl; are_met = refl; is_covered = refl; binary = refl };
  fences = record { is_formed = refl; are_met = refl; is_covered = refl; binary = refl };
  other_fence = refl;
  null_continuation = refl;
  float_lanes = refl;
}

pub segments : SegmentExamples
unfolding uleb sleb leb digits logarithm lib.Count.count_trailing_zeros
segments = record {
  active_functions = record { is_formed = refl; are_met = refl; is_covered = refl; binary = refl };
  passive_functions = record { is_formed = refl; are_met = refl; is_covered = refl; binary = refl };
  table_functions = record { is_formed = refl; are_met = refl; is_covered = refl; binary = refl };
  declared_functions = record { is_formed = refl; are_met = refl; is_covered = refl; binary = refl };
  active_values = record { is_formed = refl; are_met = refl; is_covered = refl; binary = refl };
  passive_values = record { is_formed = refl; are_met = refl; is_covered = refl; binary = refl };
  table_values = record { is_formed = refl; are_met = refl; is_covered = refl; binary = refl };
  other_values = record { is_formed = refl; are_met = refl; is_covered = refl; binary = refl };
  declared_values = record { is_formed = refl; are_met = refl; is_covered = refl; binary = refl };
}
