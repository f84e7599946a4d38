use Rattle.std.proofs.Common.{sym, ◌∙◌, ap}
use Rattle.wast_grammar.specs.Spelling.{same_name}
use Rattle.wast_names.specs.Walk.{first_unmet}
use Rattle.wast_names.specs.Demand.{is_met}
use Rattle.std.specs.Prelude.{option_map}
use Rattle.wast_meaning.specs.Demands.{demands}
use Rattle.wast_resolve_laws.specs.Renamed.{fields_renamed, demand_renamed}
use Rattle.wast_resolve_laws.proofs.Names.{name_self, name_sound}
use Rattle.wast_resolve_laws.proofs.RenamedFields as made
use Rattle.wast_resolve_laws.proofs.WrittenDemands.{written_demands}
use Rattle.wast_resolve_laws.proofs.laws.renamed_demands.Goals as goal

pub returns : goal.returns
returns c = record {
  asked = λ renaming moving fields. made.demands_renamed renaming moving same_name same_name (made.names_kept renaming) fields;
  asked_of_all = λ renaming moving fields naming. made.all_demands_renamed renaming moving same_name same_name (made.names_kept renaming) fields naming;
  met = λ renaming moving fields. made.met_renamed renaming moving same_name same_name (made.names_kept renaming) fields;
  first = λ renaming moving fields naming other fresh new. (
      written_demands same_name name_self name_sound other (fields_renamed renaming moving fields) new
      ∙ ap (first_unmet is_met) (made.demands_renamed renaming moving same_name same_name (made.names_kept renaming) fields)
      ∙ made.first_renamed renaming.fun moving.fun (demands same_name fields)
      ∙ ap (option_map (demand_renamed renaming.fun moving.fun)) (sym (written_demands same_name name_self name_sound naming fields fresh))
      );
}
