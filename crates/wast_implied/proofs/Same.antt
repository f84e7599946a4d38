-- Shapes: two signatures are the same as they are written where their shapes are, and those are one.
use Rattle.std.proofs.Common.{◌≡◌, ℕ, List, [], ◌∷◌, Bool, true, false, refl, sym, ◌∙◌, ap, nat_eq, map, ◌&&◌, subst}
use Rattle.std.specs.Cmp.Lexicographic.{pointwise}
use Rattle.std.proofs.lemmas.Bool.{and_parts}
use Rattle.std.proofs.lemmas.Bool.Decides.{Decides-eqb}
use Rattle.wast_grammar.specs.Tokens.{Name}
use Rattle.wast_parser.specs.Spelling.{same_name}
use Rattle.wast_parser.specs.Identifiers.{Reference, ByNumber, ByName}
use Rattle.wast_value_types.specs.Unplaced.{unplaced_index}
use Rattle.wast_value_types.specs.ValueTree.{HeapType, Abstract, Concrete, Exact, ValType, Number, Ref}
use Rattle.wast_signatures.specs.TypeTree.{Local, Sig}
use Rattle.wast_names.proofs.Order.{alike_names}
use Rattle.wast_meaning.specs.Implied.{same_flag, same_written, same_heap, same_val, same_local, same_sig, unnamed, unnamed_local}
use Rattle.wast_implied.specs.Shapes.{Unplaced, ValueShape, OfNumber, OfWord, OfIndex, Shape, same_value, same_shape, heap_shape, value_shape, shape}

abbrev same_index : Reference Name ℕ → Reference Name ℕ → Bool
same_index = same_written same_name

never : (b : Bool) → (b && false) ≡ false
never true = refl
never false = refl

-- AS WRITTEN
indices_alike : (i j : Reference Name ℕ) → same_written same_name i j ≡ same_written same_name (unplaced_index i) (unplaced_index j)
indices_alike (ByNumber m p) (ByNumber n q) = refl
indices_alike (ByNumber m p) (ByName j) = refl
indices_alike (ByName i) (ByNumber n q) = refl
indices_alike (ByName i) (ByName j) = refl

heaps_alike : (a b : Bool) (h k : HeapType Name ℕ) → (same_flag a b && same_heap same_index h k) ≡ same_value (heap_shape a h) (heap_shape b k)
heaps_alike a b (Abstract s v) (Abstract t w) = refl
heaps_alike a b (Abstract s v) (Concrete j) = never (same_flag a b)
heaps_alike a b (Abstract s v) (Exact j) = never (same_flag a b)
heaps_alike a b (Concrete i) (Abstract t w) = never (same_flag a b)
heaps_alike a b (Concrete i) (Concrete j) = ap (λ c. same_flag a b && c) (indices_alike i j)
heaps_alike a b (Concrete i) (Exact j) = refl
heaps_alike a b (Exact i) (Abstract t w) = never (same_flag a b)
heaps_alike a b (Exact i) (Concrete j) = refl
heaps_alike a b (Exact i) (Exact j) = ap (λ c. same_flag a b && c) (indices_alike i j)

not_a_number : (n : ℕ) (b : Bool) (h : HeapType Name ℕ) → (false ≡ same_value (OfNumber n) (heap_shape b h))
not_a_number n b (Abstract s v) = refl
not_a_number n b (Concrete i) = refl
not_a_number n b (Exact i) = refl

no_number : (n : ℕ) (b : Bool) (h : HeapType Name ℕ) → (false ≡ same_value (heap_shape b h) (OfNumber n))
no_number n b (Abstract s v) = refl
no_number n b (Concrete i) = refl
no_number n b (Exact i) = refl

values_alike : (a b : ValType Name ℕ) → same_val same_index a b ≡ same_value (value_shape a) (value_shape b)
values_alike (Number a) (Number b) = refl
values_alike (Number a) (Ref s) = not_a_number _ s.nullable s.heap_type
values_alike (Ref r) (Number b) = no_number _ r.nullable r.heap_type
values_alike (Ref r) (Ref s) = heaps_alike r.nullable s.nullable r.heap_type s.heap_type

lists_alike : {A : Type 0} (same : A → A → Bool) (to : A → ValueShape) → ((a b : A) → same a b ≡ same_value (to a) (to b)) → (xs ys : List A)
    → pointwise same xs ys ≡ pointwise same_value (map to xs) (map to ys)
lists_alike same to h [] [] = refl
lists_alike same to h [] (y ∷ ys) = refl
lists_alike same to h (x ∷ xs) [] = refl
lists_alike same to h (x ∷ xs) (y ∷ ys) = ap (λ b. b && pointwise same xs ys) (h x y) ∙ ap (λ b. same_value (to x) (to y) && b) (lists_alike same to h xs ys)

pub sigs_alike : (s t : Sig Name ℕ) → same_sig (same_written same_name) s t ≡ same_shape (shape s) (shape t)
sigs_alike s t =
    ap (λ b. b && pointwise (same_val same_index) s.results t.results) (lists_alike (same_local same_index) (λ l. value_shape l.val_type) (λ a b. values_alike a.val_type b.val_type) s.params t.params)
    ∙ ap (λ b. pointwise same_value (shape s).params (shape t).params && b) (lists_alike (same_val same_index) value_shape values_alike s.results t.results)

-- names of parameters are no part
locals_unnamed : (ls : List (Local Name ℕ)) → map (λ l. value_shape l.val_type) (map unnamed_local ls) ≡ map (λ l. value_shape l.val_type) ls
locals_unnamed [] = refl
locals_unnamed (l ∷ ls) = ap (λ rest. value_shape l.val_type ∷ rest) (locals_unnamed ls)

pub shape_unnamed : (s : Sig Name ℕ) → shape (unnamed s) ≡ shape s
shape_unnamed s = λ i. record { params = locals_unnamed s.params i; results = map value_shape s.results }

-- ARE ONE
one_flag : (a b : Bool) → same_flag a b ≡ true → a ≡ b
one_flag true true h = refl
one_flag true false h = absurd (cc)
one_flag false true h = absurd (cc)
one_flag false false h = refl

one_index : (i j : Unplaced) → same_written same_name i j ≡ true → i ≡ j
one_index (ByNumber m p) (ByNumber n q) h = ap (λ k. ByNumber k tt) ((Decides-eqb m n).0 h)
one_index (ByNumber m p) (ByName j) h = absurd (cc)
one_index (ByName i) (ByNumber n q) h = absurd (cc)
one_index (ByName i) (ByName j) h = ap (λ n. ByName (n, tt)) (alike_names i.0 j.0 h)

one_value : (a b : ValueShape) → same_value a b ≡ true → a ≡ b
one_value (OfNumber m) (OfNumber n) h = ap OfNumber ((Decides-eqb m n).0 h)
one_value (OfNumber m) (OfWord b t n) h = absurd (cc)
one_value (OfNumber m) (OfIndex b t j) h = absurd (cc)
one_value (OfWord a s m) (OfNumber n) h = absurd (cc)
one_value (OfWord a s m) (OfWord b t n) h =
    let p = and_parts (same_flag a b) (same_flag s t && nat_eq m n) h in
    let q = and_parts (same_flag s t) (nat_eq m n) p.1 in
    λ i. OfWord (one_flag a b p.0 i) (one_flag s t q.0 i) ((Decides-eqb m n).0 q.1 i)
one_value (OfWord a s m) (OfIndex b t j) h = absurd (cc)
one_value (OfIndex a s i) (OfNumber n) h = absurd (cc)
one_value (OfIndex a s i) (OfWord b t n) h = absurd (cc)
one_value (OfIndex a s i) (OfIndex b t j) h =
    let p = and_parts (same_flag a b) (same_flag s t && same_written same_name i j) h in
    let q = and_parts (same_flag s t) (same_written same_name i j) p.1 in
    λ k. OfIndex (one_flag a b p.0 k) (one_flag s t q.0 k) (one_index i j q.1 k)

one_list : (xs ys : List ValueShape) → pointwise same_value xs ys ≡ true → xs ≡ ys
one_list [] [] h = refl
one_list [] (y ∷ ys) h = absurd (cc)
one_list (x ∷ xs) [] h = absurd (cc)
one_list (x ∷ xs) (y ∷ ys) h =
    let p = and_parts (same_value x y) (pointwise same_value xs ys) h in
    λ i. one_value x y p.0 i ∷ one_list xs ys p.1 i

pub one_shape : (s t : Shape) → same_shape s t ≡ true → s ≡ t
one_shape s t h =
    let p = and_parts (pointwise same_value s.params t.params) (pointwise same_value s.results t.results) h in
    λ i. record { params = one_list s.params t.params p.0 i; results = one_list s.results t.results p.1 i }

-- SYMMETRY
swapped : (s t : Shape) → s ≡ t → same_shape t s ≡ same_shape s t
swapped s t e = subst (λ u. same_shape u s ≡ same_shape s u) e refl

pub symmetric : (s t : Shape) → same_shape s t ≡ same_shape t s
symmetric s t = of (same_shape s t) (same_shape t s) refl refl
  where
    of : (a b : Bool) → same_shape s t ≡ a → same_shape t s ≡ b → a ≡ b
    of true true p q = refl
    of true false p q = sym p ∙ sym (swapped s t (one_shape s t p)) ∙ q
    of false true p q = sym p ∙ swapped t s (one_shape t s q) ∙ q
    of false false p q = refl
