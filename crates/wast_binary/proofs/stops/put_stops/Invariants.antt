use Rattle.std.specs.Prelude.{option_map}
use Rattle.wast_parser.specs.Identifiers.{identifier_tree}
use Rattle.wast_signatures.specs.SignatureViews.{name_tree}
use Rattle.wast_binary.specs.Sources.{fields_in}
use Rattle.wast_binary.proofs.Laid.{PutSoFar}
use Rattle.wast_binary.proofs.stops.put_stops.Given as goal

abbrev pub invariant-loop-stop : goal.invariant-loop-stop
invariant-loop-stop l = PutSoFar (option_map name_tree l.name) (option_map identifier_tree l.id) (fields_in l.fields) l.stop-index l.fn.«module» l.«module»
