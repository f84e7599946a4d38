-- The statement of the crate's law function.
use Rattle.std.specs.Prelude.{◌≡◌, ◌↔◌, true}
use Rattle.wast_value_types.specs.declared.heap_type.HeapType.{HeapType}
use Rattle.wast_value_types.specs.declared.ref_type.RefType.{RefType}
use Rattle.wast_value_types.specs.declared.val_type.ValType.{ValType}
use Rattle.wast_value_types.specs.contracts.heap_type.HeapTypePartialEq.TheImpl as heap_eq
use Rattle.wast_value_types.specs.contracts.ref_type.RefTypePartialEq.TheImpl as ref_eq
use Rattle.wast_value_types.specs.contracts.val_type.ValTypePartialEq.TheImpl as val_eq
use Rattle.wast_value_types.specs.ValueViews.{heap_tree, ref_tree, val_tree}
use Rattle.wast_value_types.specs.Unplaced.{unplaced_heap, unplaced_ref, unplaced_val}

-- What `==` answers of two types: whether their trees are equal, wherever their indices stand.
pub record EqualTypes : Type 0 where
  pub heap_types : (a b : HeapType) → (heap_eq.ghosts.eq a b ≡ true) ↔ (unplaced_heap (heap_tree a) ≡ unplaced_heap (heap_tree b))
  pub ref_types : (a b : RefType) → (ref_eq.ghosts.eq a b ≡ true) ↔ (unplaced_ref (ref_tree a) ≡ unplaced_ref (ref_tree b))
  pub val_types : (a b : ValType) → (val_eq.ghosts.eq a b ≡ true) ↔ (unplaced_val (val_tree a) ≡ unplaced_val (val_tree b))
