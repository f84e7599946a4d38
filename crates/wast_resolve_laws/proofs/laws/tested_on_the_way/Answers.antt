use Rattle.std.proofs.Common.{◌∙◌, ap, [], None}
use Rattle.wast_grammar.specs.Spelling.{same_name}
use Rattle.wast_names.specs.Walk.{first_unmet}
use Rattle.wast_names.specs.Demand.{is_met}
use Rattle.wast_names.specs.Space as names
use Rattle.wast_meaning.specs.Demands.{nearest, order_demand, item_demand, spaces_after}
use Rattle.wast_meaning.specs.Scope.{labels_after}
use Rattle.wast_resolve_laws.specs.Walks.{demands_among}
use Rattle.wast_resolve_laws.proofs.Walks.{tested_so}
use Rattle.wast_resolve_laws.proofs.WalkedFields.{demands_handed_on}
use Rattle.wast_resolve_laws.proofs.laws.tested_on_the_way.Goals as goal

pub returns : goal.returns
returns c = record {
  order = λ fields. tested_so is_met order_demand nearest None fields;
  bounds = λ bounds. tested_so is_met (item_demand same_name) (spaces_after same_name) (λ s. names.empty) bounds;
  instructions = λ scope body. ap (first_unmet is_met) (demands_handed_on same_name scope [] body) ∙ tested_so is_met (demands_among same_name scope) labels_after [] body;
}
