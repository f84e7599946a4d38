use Rattle.wast_grammar.specs.Spelling.{same_name}
use Rattle.wast_resolve_laws.proofs.RenamedFields.{names_kept}
use Rattle.wast_meaning.specs.Made.{is_made}
use Rattle.wast_meant_laws.proofs.Renamed as of_fields
use Rattle.wast_meant_laws.proofs.Trees as of_trees
use Rattle.wast_meant_laws.proofs.laws.renamed_meaning.Goals as goal

pub returns : goal.returns
returns c = record {
  module_meant = λ r name fields. of_fields.meant_renamed r.names r.places same_name same_name (names_kept r.names) fields is_made is_made r.keeps_made name;
  tree = λ r stays t m. of_trees.tree_means r stays t m;
  only = λ r stays t n h. of_trees.means_only r stays t n h;
}
