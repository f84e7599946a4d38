use Rattle.std.proofs.Common.{refl}
use Rattle.wast_parser.proofs.GrammarLaws.{one_value}
use Rattle.wast_core.specs.ModuleSyntax.{module_form, wat}
use Rattle.wast_core.proofs.ModuleLaws.{module_form_laws, wat_laws}
use Rattle.wast_core.proofs.laws.one_module.Goals as goal

pub returns : goal.returns
returns c = record { form = λ m n ts. one_value module_form module_form_laws refl ts m n; text = λ m n ts. one_value wat wat_laws refl ts m n }
