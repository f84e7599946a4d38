use Rattle.std.proofs.Common.{sym}
use Rattle.wast_grammar.specs.Spelling.{same_name}
use Rattle.wast_resolve_laws.proofs.WalkedFields as made
use Rattle.wast_resolve_laws.proofs.laws.orders_agree.Goals as goal

pub returns : goal.returns
returns c = record {
  number = λ first second same space name. made.denoted_either same_name first second same space name;
  met = λ first second same. (made.items_met_either same_name first second same, made.items_met_either same_name second first (λ space. sym (same space)));
}
