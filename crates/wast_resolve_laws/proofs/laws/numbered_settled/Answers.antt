use Rattle.wast_grammar.specs.Spelling.{same_name}
use Rattle.wast_resolve_laws.proofs.Settles.{numbered_numbers, numbered_settles}
use Rattle.wast_resolve_laws.proofs.laws.numbered_settled.Goals as goal

pub returns : goal.returns
returns c = record {
  numbers = λ fields met. numbered_numbers same_name fields met;
  settled = λ fields met typed. numbered_settles same_name fields met typed;
}
