use Rattle.wast_grammar.specs.Spelling.{same_name}
use Rattle.wast_resolve_laws.proofs.RenamedFields.{names_kept}
use Rattle.wast_meaning.specs.Made.{is_made}
use Rattle.wast_meant_laws.proofs.Renamed as of_fields
use Rattle.wast_meant_laws.proofs.Trees as of_trees
use Rattle.wast_meant_laws.proofs.laws.renamed_conditions.Goals as goal

pub returns : goal.returns
returns c = record {
  places = λ r fields. of_fields.breaches_renamed r.names r.places same_name same_name (names_kept r.names) fields is_made is_made r.keeps_made;
  formed = λ r fields. of_fields.formed_either r.names r.places same_name same_name (names_kept r.names) is_made is_made r.keeps_made fields;
  form = λ r fields naming. of_fields.uncovered_renamed r.names r.places same_name same_name (names_kept r.names) fields naming;
  covered = λ r fields naming. of_fields.covered_either r.names r.places same_name same_name (names_kept r.names) fields naming;
  content = λ r t. of_trees.content_renamed r t;
  named = λ r stays t. of_trees.naming_renamed r stays t;
}
