use Rattle.std.proofs.Common.{arith}
use Rattle.std.specs.Prelude.{option_map}
use Rattle.wast_parser.specs.Identifiers.{identifier_tree}
use Rattle.wast_signatures.specs.SignatureViews.{name_tree}
use Rattle.wast_binary.specs.Sources.{fields_in}
use Rattle.wast_binary.proofs.StopByStop.{next_stop, all_stops, no_stop}
use Rattle.wast_binary.proofs.stops.put_stops.Goals as goal

pub loop-stop-preserved : goal.loop-stop-preserved
loop-stop-preserved c =
    next_stop (option_map name_tree c.args.name.now) (option_map identifier_tree c.args.id.now) (fields_in c.args.fields.now) c.loop-stop.stop-index _ _ _ _ (omega arith) c.loop-stop.invariant c.in-Ok.ensures

pub returns : goal.returns
returns c =
    all_stops (option_map name_tree c.args.name.now) (option_map identifier_tree c.args.id.now) (fields_in c.args.fields.now) c.loop-stop.stop-index _ _ (omega arith) c.loop-stop.invariant

pub returns-in-Err : goal.returns-in-Err
returns-in-Err c =
    no_stop (option_map name_tree c.args.name.now) (option_map identifier_tree c.args.id.now) (fields_in c.args.fields.now) c.loop-stop.stop-index _ _ _ _ _ c.in-Err.e (omega arith) c.in-Err.ensures
