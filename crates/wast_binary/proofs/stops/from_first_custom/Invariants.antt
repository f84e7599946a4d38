use Rattle.std.proofs.Common.{◌≡◌, length}
use Rattle.std.specs.List.{flat_map}
use Rattle.wast_meant.specs.CustomsMeant.{customs_in}
use Rattle.wast_binary.specs.Sources.{fields_in}
use Rattle.wast_binary.proofs.stops.from_first_custom.Given as goal

abbrev pub invariant-fields : goal.invariant-fields
invariant-fields l = flat_map customs_in (fields_in l.rest) ≡ flat_map customs_in (fields_in l.fn.fields)

abbrev pub decreases-fields : goal.decreases-fields
decreases-fields l = length l.rest
