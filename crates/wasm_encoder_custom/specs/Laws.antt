-- The laws that the crate's law functions prove: what is added to a section is told apart by its bytes, whatever follows.
use Rattle.std.specs.List.{AllByRecursion}
use Rattle.wasm_encoder_base.specs.Unique.{Unique, Any}
use Rattle.wasm_encoder_custom.specs.BranchHints.{function_hints_bytes}
use Rattle.wasm_encoder_custom.specs.CoreDump.{Frame, IsValue, value_bytes, named_bytes, instance_bytes, frame_bytes}
use Rattle.wasm_encoder_custom.specs.Custom.{custom_bytes}
use Rattle.wasm_encoder_custom.specs.Names.{name_subsection_bytes}
use Rattle.wasm_encoder_custom.specs.Producers.{field_bytes}

abbrev pub OneCustom : Type 0
OneCustom = Unique Any custom_bytes

abbrev pub OneNameSubsection : Type 0
OneNameSubsection = Unique Any name_subsection_bytes

abbrev pub OneField : Type 0
OneField = Unique Any field_bytes

abbrev pub OneModuleName : Type 0
OneModuleName = Unique Any named_bytes

abbrev pub OneInstance : Type 0
OneInstance = Unique Any instance_bytes

abbrev pub OneValue : Type 0
OneValue = Unique IsValue value_bytes

-- the values of a frame are values
pub record IsFrame (frame : Frame) : Type 0 where
  pub locals : AllByRecursion IsValue frame.locals
  pub stack : AllByRecursion IsValue frame.stack

abbrev pub OneFrame : Type 0
OneFrame = Unique IsFrame frame_bytes

abbrev pub OneFunctionHints : Type 0
OneFunctionHints = Unique Any function_hints_bytes
