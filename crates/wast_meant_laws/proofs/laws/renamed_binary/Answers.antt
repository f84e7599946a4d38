use Rattle.std.proofs.Common.{ap}
use Rattle.wasm_layout.specs.Layout.{layout}
use Rattle.wast_meant_laws.proofs.Renamed as of_fields
use Rattle.wast_meant_laws.proofs.Trees as of_trees
use Rattle.wast_meant_laws.proofs.laws.renamed_binary.Goals as goal

pub returns : goal.returns
returns c = record {
  module_meant = λ renaming moving new other name second fields. of_fields.binary_renamed renaming moving new other name second fields;
  bytes = λ renaming moving new other name second fields. ap layout (of_fields.binary_renamed renaming moving new other name second fields);
  tree = λ r stays t m n a b. (of_trees.tree_bare r stays t m n a b, ap layout (of_trees.tree_bare r stays t m n a b));
}
