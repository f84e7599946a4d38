-- The fault of an encoder's error.
use Rattle.wasm_encoder_base.specs.EncodeError.{EncodeError}
use Rattle.wasm_encoder_base.specs.EncodeError.TheVariants as errors
use Rattle.wast_encode.specs.declared.fault.EncodeFault.{EncodeFault}
use Rattle.wast_encode.specs.declared.fault.EncodeFault.TheVariants as faults

abbrev pub as_fault : EncodeError → EncodeFault
as_fault errors.Memory = faults.Memory
as_fault errors.TooLarge = faults.TooLarge
