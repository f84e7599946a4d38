use Rattle.wast_value_types.proofs.Equal.{heap_to, heap_from, ref_to, ref_from, val_to, val_from}
use Rattle.wast_value_types.proofs.laws.equal_types.Goals as goal

pub returns : goal.returns
returns c = record {
  heap_types = λ a b. (heap_to a b, heap_from a b);
  ref_types = λ a b. (ref_to a b, ref_from a b);
  val_types = λ a b. (val_to a b, val_from a b);
}
