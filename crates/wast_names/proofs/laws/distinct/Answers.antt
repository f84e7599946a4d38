use Rattle.wast_names.proofs.Duplicates.{accepted, refused, refuses}
use Rattle.wast_names.proofs.laws.distinct.Goals as goal

pub returns : goal.returns
returns c = record {
  accepted = λ kind items last. accepted kind last items;
  refused = λ kind items d last. refused kind last items d;
  refuses = λ kind items id last. refuses kind last items id;
}
