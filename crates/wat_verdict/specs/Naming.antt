-- Of the demands of names of fields that a text spells, the first that isn't met.
use Rattle.std.specs.Prelude.{List, Option}
use Rattle.wast_grammar.specs.Tokens.{Name}
use Rattle.wast_grammar.specs.Spelling.{same_name}
use Rattle.wast_names.specs.Walk.{first_unmet}
use Rattle.wast_names.specs.Demand.{Demand, is_met}
use Rattle.wast_field_syntax.specs.FieldTree.{Field, Module}
use Rattle.wast_meaning.specs.Modules.{content_fields}
use Rattle.wast_meaning.specs.Demands.{all_demands}
use Rattle.wast_meant.specs.Means.{naming}

module _ {P : Type 0} where
  abbrev pub unmet_in : List (Field Name P) → Option (Demand Name P)
  unmet_in fs = first_unmet is_met (all_demands same_name (naming fs) fs)

  abbrev pub unmet_demand : Module Name P → Option (Demand Name P)
  unmet_demand tree = unmet_in (content_fields tree.content)
