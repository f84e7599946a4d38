use Rattle.wast_grammar.specs.Spelling.{same_name}
use Rattle.wast_meant_laws.proofs.AtStops as laws
use Rattle.wast_meant_laws.proofs.laws.at_stops.Goals as goal

pub returns : goal.returns
returns c = record {
  laid_out = λ new name fields. laws.laid_out same_name new name fields;
  gaps = λ new name fields. laws.gap_count same_name new name fields;
}
