use Rattle.std.proofs.Common.{refl}
use Rattle.wast_grammar.proofs.GrammarLaws.{one_value}
use Rattle.wast_core.specs.ModuleSyntax.{wat}
use Rattle.wast_core.proofs.ModuleLaws.{wat_laws}
use Rattle.wat.proofs.laws.one_tree.Goals as goal

pub returns : goal.returns
returns c = one_value wat wat_laws refl
