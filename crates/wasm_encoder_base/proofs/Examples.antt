-- The examples, computed.
use Rattle.std.proofs.Common.{refl, arith}
use Rattle.wasm_encoder_bytes.specs.Leb.{uleb, leb, digits}
use Rattle.wasm_encoder_base.specs.Table.{table, entry_at}
use Rattle.wasm_encoder_base.specs.Examples.{FunctionType, CallIndirect, MemoryInit, BrTable, Load, BrOnCast, Try, Float}

pub function_type : FunctionType
unfolding uleb leb digits
function_type = refl

pub call_indirect : CallIndirect
unfolding entry_at table uleb leb digits
call_indirect = record { is = record { listed = refl; ranges = (omega arith, omega arith) }; spelled = refl }

pub memory_init : MemoryInit
unfolding entry_at table uleb leb digits
memory_init = record { is = record { listed = refl; ranges = (omega arith, omega arith) }; spelled = refl }

pub br_table : BrTable
unfolding entry_at table uleb leb digits
br_table = record { is = record { listed = refl; ranges = ((omega arith, (omega arith, tt)), omega arith) }; spelled = refl }

pub load : Load
unfolding entry_at table uleb leb digits
load = record { is = record { listed = refl; ranges = record { align = omega arith; offset = omega arith; memory = omega arith } }; spelled = refl }

pub br_on_cast : BrOnCast
unfolding entry_at table uleb leb digits
br_on_cast = record { is = record { listed = refl; ranges = (omega arith, tt, tt) }; spelled = refl }

pub try : Try
unfolding entry_at table uleb leb digits
try = record { is = record { listed = refl; ranges = (tt, ((omega arith, omega arith), (omega arith, tt))) }; spelled = refl }

pub float : Float
unfolding entry_at table uleb leb digits
float = record { is = record { listed = refl; ranges = omega arith }; spelled = refl }
