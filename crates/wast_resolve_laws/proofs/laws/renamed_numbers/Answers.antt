use Rattle.wast_grammar.specs.Spelling.{same_name}
use Rattle.wast_resolve_laws.proofs.RenamedFields as made
use Rattle.wast_resolve_laws.proofs.laws.renamed_numbers.Goals as goal

pub returns : goal.returns
returns c = record {
  number = λ renaming moving fields space name. made.number_renamed renaming moving same_name same_name (made.names_kept renaming) fields space name;
  numbers = λ renaming moving fields. made.numbered_renamed renaming moving same_name same_name (made.names_kept renaming) fields;
  all_numbers = λ renaming moving fields naming. made.resolved_renamed renaming moving same_name same_name (made.names_kept renaming) fields naming;
}
