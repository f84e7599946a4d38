use Rattle.wast_grammar.specs.Spelling.{same_name}
use Rattle.wast_meant_laws.proofs.Bare as laws
use Rattle.wast_meant_laws.proofs.Unnamed.{pieces_left}
use Rattle.wast_meant_laws.proofs.laws.names_apart.Goals as goal

pub returns : goal.returns
returns c = record {
  module_meant = λ new other name second fields. laws.names_apart same_name new other name second fields;
  binary_meant = λ new other name second fields. laws.bytes_apart same_name new other name second fields;
  pieces_left = λ new name fields. pieces_left same_name new name fields;
}
