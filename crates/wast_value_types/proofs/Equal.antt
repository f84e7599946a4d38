-- Types are equal exactly where their trees are, places aside.
use Rattle.std.proofs.Common.{◌≡◌, ℕ, Bool, true, false, List, refl, sym, ◌∙◌, ap, ◌&&◌, rules}
use Rattle.std.proofs.lemmas.Bool.{false≢true, eqb-true, eq-eqb, and_parts, and_from}
use Rattle.std.specs.Cmp.Lexicographic.{bytes_decides}
use Rattle.wasm_encoder_base.specs.Types.{FuncHeap, ExternHeap, AnyHeap, EqHeap, I31Heap, StructHeap, ArrayHeap, ExnHeap, NoFuncHeap, NoExternHeap, NoneHeap, NoExnHeap}
use Rattle.wast_words.specs.Tokens.{Name}
use Rattle.wast_parser_base.specs.declared.index.Index.{Index}
use Rattle.wast_parser_base.specs.declared.index.Index.TheVariants as indices
use Rattle.wast_parser_base.specs.contracts.index.IndexPartialEq.TheImpl as index_eq
use Rattle.wast_words.specs.Identifiers.{Reference, ByNumber, ByName, index_tree}
use Rattle.wast_value_types.specs.ValueTree.{HeapWord, Known, Cont, NoCont, Abstract, Concrete, Exact, Number, Ref}
use Rattle.wast_value_types.specs.ValueTree as spec
use Rattle.wast_value_types.specs.declared.heap_type.AbstractHeapType.{AbstractHeapType}
use Rattle.wast_value_types.specs.declared.heap_type.AbstractHeapType.TheVariants as words
use Rattle.wast_value_types.specs.declared.heap_type.HeapType.{HeapType}
use Rattle.wast_value_types.specs.declared.heap_type.HeapType.TheVariants as heaps
use Rattle.wast_value_types.specs.declared.ref_type.RefType.{RefType}
use Rattle.wast_value_types.specs.declared.val_type.ValType.{ValType}
use Rattle.wast_value_types.specs.declared.val_type.ValType.TheVariants as vals
use Rattle.wast_value_types.specs.contracts.heap_type.AbstractHeapType.{the_type}
use Rattle.wast_value_types.specs.contracts.heap_type.AbstractHeapTypePartialEq.TheImpl as word_eq
use Rattle.wast_value_types.specs.contracts.heap_type.HeapTypePartialEq.TheImpl as heap_eq
use Rattle.wast_value_types.specs.contracts.ref_type.RefTypePartialEq.TheImpl as ref_eq
use Rattle.wast_value_types.specs.contracts.val_type.ValTypePartialEq.TheImpl as val_eq
use Rattle.wast_value_types.specs.ValueViews.{heap_word, heap_tree, ref_tree, val_tree}
use Rattle.wast_value_types.specs.Unplaced.{unplaced_index, unplaced_heap, unplaced_ref, unplaced_val}
use mathlib.Core.Bool.{beq}
use denote.Enum.Bare.{same_true}

-- ABSTRACT HEAP TYPES
word_to : (v w : AbstractHeapType) → word_eq.ghosts.eq v w ≡ true → v ≡ w
word_to v w e = same_true the_type (search rules) v w e

word_self : (v : AbstractHeapType) → word_eq.ghosts.eq v v ≡ true
word_self words.Func = refl
word_self words.Extern = refl
word_self words.Exn = refl
word_self words.Cont = refl
word_self words.Any = refl
word_self words.Eq = refl
word_self words.Struct = refl
word_self words.Array = refl
word_self words.I31 = refl
word_self words.NoFunc = refl
word_self words.NoExtern = refl
word_self words.None = refl
word_self words.NoExn = refl
word_self words.NoCont = refl

word_of : HeapWord → AbstractHeapType
word_of (Known FuncHeap) = words.Func
word_of (Known ExternHeap) = words.Extern
word_of (Known ExnHeap) = words.Exn
word_of Cont = words.Cont
word_of (Known AnyHeap) = words.Any
word_of (Known EqHeap) = words.Eq
word_of (Known StructHeap) = words.Struct
word_of (Known ArrayHeap) = words.Array
word_of (Known I31Heap) = words.I31
word_of (Known NoFuncHeap) = words.NoFunc
word_of (Known NoExternHeap) = words.NoExtern
word_of (Known NoneHeap) = words.None
word_of (Known NoExnHeap) = words.NoExn
word_of NoCont = words.NoCont

word_back : (v : AbstractHeapType) → word_of (heap_word v) ≡ v
unfolding word_of
word_back words.Func = refl
word_back words.Extern = refl
word_back words.Exn = refl
word_back words.Cont = refl
word_back words.Any = refl
word_back words.Eq = refl
word_back words.Struct = refl
word_back words.Array = refl
word_back words.I31 = refl
word_back words.NoFunc = refl
word_back words.NoExtern = refl
word_back words.None = refl
word_back words.NoExn = refl
word_back words.NoCont = refl

word_from : (v w : AbstractHeapType) → heap_word v ≡ heap_word w → word_eq.ghosts.eq v w ≡ true
word_from v w e = ap (word_eq.ghosts.eq v) (sym (sym (word_back v) ∙ ap word_of e ∙ word_back w)) ∙ word_self v

-- INDICES
index_to : (i j : Index) → index_eq.ghosts.eq i j ≡ true → unplaced_index (index_tree i) ≡ unplaced_index (index_tree j)
index_to (indices.Num m p) (indices.Num n q) e = ap (λ k. ByNumber k tt) (eqb-true m n e)
index_to (indices.Num m p) (indices.Id y) e = absurd (false≢true e)
index_to (indices.Id x) (indices.Num n q) e = absurd (false≢true e)
index_to (indices.Id x) (indices.Id y) e =
    let k = and_parts _ _ e in
    ap (λ n. ByName ((n, x.generation), tt)) ((bytes_decides x.name y.name).0 k.1) ∙ ap (λ g. ByName ((y.name, g), tt)) (eqb-true x.generation y.generation k.0)

number_of : {P : Type 0} → ℕ → Reference Name P → ℕ
number_of d (ByNumber n p) = n
number_of d (ByName x) = x.0.1

name_of : {P : Type 0} → List ℕ → Reference Name P → List ℕ
name_of d (ByNumber n p) = d
name_of d (ByName x) = x.0.0

index_from : (i j : Index) → unplaced_index (index_tree i) ≡ unplaced_index (index_tree j) → index_eq.ghosts.eq i j ≡ true
unfolding number_of name_of
index_from (indices.Num m p) (indices.Num n q) e = eq-eqb m n (ap (number_of 0) e)
index_from (indices.Num m p) (indices.Id y) e = absurd cc
index_from (indices.Id x) (indices.Num n q) e = absurd cc
index_from (indices.Id x) (indices.Id y) e =
    and_from _ _ (eq-eqb x.generation y.generation (ap (number_of 0) e)) ((bytes_decides x.name y.name).1 (ap (name_of x.name) e))

-- HEAP TYPES
pub heap_to : (a b : HeapType) → heap_eq.ghosts.eq a b ≡ true → unplaced_heap (heap_tree a) ≡ unplaced_heap (heap_tree b)
heap_to (heaps.Abstract true v) (heaps.Abstract true w) e = ap (λ x. Abstract true (heap_word x)) (word_to v w e)
heap_to (heaps.Abstract false v) (heaps.Abstract false w) e = ap (λ x. Abstract false (heap_word x)) (word_to v w e)
heap_to (heaps.Concrete i) (heaps.Concrete j) e = ap Concrete (index_to i j e)
heap_to (heaps.Exact i) (heaps.Exact j) e = ap Exact (index_to i j e)
heap_to a b e = absurd (false≢true e)

word_in : {N P : Type 0} → spec.HeapType N P → HeapWord
word_in (Abstract shared w) = w
word_in h = Cont

index_in : {N P : Type 0} → Reference N P → spec.HeapType N P → Reference N P
index_in d (Abstract shared w) = d
index_in d (Concrete i) = i
index_in d (Exact i) = i

pub heap_from : (a b : HeapType) → unplaced_heap (heap_tree a) ≡ unplaced_heap (heap_tree b) → heap_eq.ghosts.eq a b ≡ true
unfolding word_in index_in
heap_from (heaps.Abstract true v) (heaps.Abstract true w) e = word_from v w (ap word_in e)
heap_from (heaps.Abstract false v) (heaps.Abstract false w) e = word_from v w (ap word_in e)
heap_from (heaps.Concrete i) (heaps.Concrete j) e = index_from i j (ap (index_in (unplaced_index (index_tree i))) e)
heap_from (heaps.Exact i) (heaps.Exact j) e = index_from i j (ap (index_in (unplaced_index (index_tree i))) e)
heap_from a b e = absurd cc

-- REFERENCE TYPES
as_ref : Bool → spec.HeapType Name (Unit {0}) → spec.RefType Name (Unit {0})
as_ref n h = record { nullable = n; heap_type = h }

same_bool : (s t : Bool) → (b : Bool) → beq s t && b ≡ true → (s ≡ t) × (b ≡ true)
same_bool true true b e = (refl, e)
same_bool false false b e = (refl, e)
same_bool true false b e = cc
same_bool false true b e = cc

bool_same : (s t : Bool) → (b : Bool) → s ≡ t → b ≡ true → (beq s t && b) ≡ true
bool_same true true b e f = f
bool_same false false b e f = f
bool_same true false b e f = cc
bool_same false true b e f = cc

pub ref_to : (a b : RefType) → ref_eq.ghosts.eq a b ≡ true → unplaced_ref (ref_tree a) ≡ unplaced_ref (ref_tree b)
unfolding as_ref
ref_to a b e =
    let k = same_bool a.nullable b.nullable (heap_eq.ghosts.eq a.heap b.heap) e in
    ap (λ n. as_ref n (unplaced_heap (heap_tree a.heap))) k.0 ∙ ap (as_ref b.nullable) (heap_to a.heap b.heap k.1)

pub ref_from : (a b : RefType) → unplaced_ref (ref_tree a) ≡ unplaced_ref (ref_tree b) → ref_eq.ghosts.eq a b ≡ true
ref_from a b e = bool_same a.nullable b.nullable (heap_eq.ghosts.eq a.heap b.heap) (ap (λ r. r.nullable) e) (heap_from a.heap b.heap (ap (λ r. r.heap_type) e))

-- VALUE TYPES
pub val_to : (a b : ValType) → val_eq.ghosts.eq a b ≡ true → unplaced_val (val_tree a) ≡ unplaced_val (val_tree b)
val_to vals.I32 vals.I32 e = refl
val_to vals.I64 vals.I64 e = refl
val_to vals.F32 vals.F32 e = refl
val_to vals.F64 vals.F64 e = refl
val_to vals.V128 vals.V128 e = refl
val_to (vals.Ref r) (vals.Ref s) e = ap Ref (ref_to r s e)
val_to a b e = absurd (false≢true e)

ref_in : {N P : Type 0} → spec.RefType N P → spec.ValType N P → spec.RefType N P
ref_in d (Number n) = d
ref_in d (Ref r) = r

pub val_from : (a b : ValType) → unplaced_val (val_tree a) ≡ unplaced_val (val_tree b) → val_eq.ghosts.eq a b ≡ true
unfolding ref_in
val_from vals.I32 vals.I32 e = refl
val_from vals.I64 vals.I64 e = refl
val_from vals.F32 vals.F32 e = refl
val_from vals.F64 vals.F64 e = refl
val_from vals.V128 vals.V128 e = refl
val_from (vals.Ref r) (vals.Ref s) e = ref_from r s (ap (ref_in (unplaced_ref (ref_tree r))) e)
val_from a b e = absurd cc
