-- What contracts see of turns.
use Rattle.wasm_encoder_base.specs.Balanced as spec
use Rattle.wast_well_formed.specs.declared.turn.Turn.{Turn}
use Rattle.wast_well_formed.specs.declared.turn.Turn.TheVariants as turns

abbrev pub turn_view : Turn → spec.Turn
turn_view turns.Opens = spec.Opens
turn_view turns.Closes = spec.Closes
turn_view turns.Stays = spec.Stays
