-- Types as they are written, without the places of their indices.
use Rattle.wast_words.specs.Identifiers.{Reference, ByNumber, ByName}
use Rattle.wast_value_types.specs.ValueTree.{HeapType, Abstract, Concrete, Exact, RefType, ValType, Number, Ref}

abbrev pub unplaced_index : {N P : Type 0} → Reference N P → Reference N (Unit {0})
unplaced_index (ByNumber n p) = ByNumber n tt
unplaced_index (ByName x) = ByName (x.0, tt)

abbrev pub unplaced_heap : {N P : Type 0} → HeapType N P → HeapType N (Unit {0})
unplaced_heap (Abstract shared w) = Abstract shared w
unplaced_heap (Concrete i) = Concrete (unplaced_index i)
unplaced_heap (Exact i) = Exact (unplaced_index i)

abbrev pub unplaced_ref : {N P : Type 0} → RefType N P → RefType N (Unit {0})
unplaced_ref r = record { nullable = r.nullable; heap_type = unplaced_heap r.heap_type }

abbrev pub unplaced_val : {N P : Type 0} → ValType N P → ValType N (Unit {0})
unplaced_val (Number n) = Number n
unplaced_val (Ref r) = Ref (unplaced_ref r)
