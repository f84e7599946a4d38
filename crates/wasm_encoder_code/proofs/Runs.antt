-- Joined locals: the leading ones of a type are one run.
use Rattle.std.proofs.Common.{ℕ, zero, suc, ◌≡◌, ◌+◌, ◌<◌, Bool, true, false, List, [], ◌∷◌, ◌++◌, length, map, drop, get_or, refl, sym, ap, ◌∙◌, ⊎_elim, arith}
use Rattle.std.proofs.lemmas.Bool.{eqb-true, eq-eqb, cases_Bool, and_parts}
use Rattle.std.specs.List.{AllByRecursion}
use Rattle.wasm_encoder_base.specs.Types.{HeapType, Abstract, Concrete, RefType, ValType, I32Type, I64Type, F32Type, F64Type, V128Type, Reference, abstract_heap_byte}
use Rattle.std.proofs.lemmas.List.{drop-map}
use Rattle.wasm_encoder_base.specs.Views.{val_view}
use Rattle.wasm_encoder_base.specs.declared.types.ValType as types
use Rattle.wasm_encoder_base.proofs.UniqueTypes.{unique_heap}
use Rattle.wasm_encoder_code.specs.Body.{Run, same_heap, same_flag, same_type, joins, joined}
use Rattle.wasm_encoder_code.specs.Locals.{leading}

flag_one : (a b : Bool) → same_flag a b ≡ true → a ≡ b
flag_one true true e = refl
flag_one false false e = refl
flag_one _ _ e = cc

flag_self : (a : Bool) → same_flag a a ≡ true
flag_self true = refl
flag_self false = refl

heap_one : (h k : HeapType) → same_heap h k ≡ true → h ≡ k
heap_one (Abstract a) (Abstract b) e = (unique_heap.reads (Abstract a) (Abstract b) [] [] tt tt (ap (λ n. n ∷ []) (eqb-true (abstract_heap_byte a) (abstract_heap_byte b) e))).0
heap_one (Concrete m) (Concrete n) e = ap Concrete (eqb-true m n e)
heap_one _ _ e = cc

heap_self : (h : HeapType) → same_heap h h ≡ true
heap_self (Abstract a) = eq-eqb (abstract_heap_byte a) (abstract_heap_byte a) refl
heap_self (Concrete n) = eq-eqb n n refl

ref_one : (r s : RefType) → r.nullable ≡ s.nullable → r.heap_type ≡ s.heap_type → r ≡ s
ref_one r s p q = λ i. record { nullable = p i; heap_type = q i }

pub type_one : (t u : ValType) → same_type t u ≡ true → t ≡ u
type_one I32Type I32Type e = refl
type_one I64Type I64Type e = refl
type_one F32Type F32Type e = refl
type_one F64Type F64Type e = refl
type_one V128Type V128Type e = refl
type_one (Reference r) (Reference s) e =
    let h = and_parts (same_flag r.nullable s.nullable) (same_heap r.heap_type s.heap_type) e in
    ap Reference (ref_one r s (flag_one r.nullable s.nullable h.0) (heap_one r.heap_type s.heap_type h.1))
type_one _ _ e = cc

pub type_self : (t : ValType) → same_type t t ≡ true
type_self I32Type = refl
type_self I64Type = refl
type_self F32Type = refl
type_self F64Type = refl
type_self V128Type = refl
type_self (Reference r) = rw (flag_self r.nullable, heap_self r.heap_type) refl

pub joins_same : (t u : ValType) (n : ℕ) (rs : List Run) → same_type t u ≡ true → joins t (record { count = n; val_type = u } ∷ rs) ≡ record { count = n + 1; val_type = u } ∷ rs
joins_same t u n rs e = rw (e, joins) refl

pub joins_other : (t u : ValType) (n : ℕ) (rs : List Run) → same_type t u ≡ false → joins t (record { count = n; val_type = u } ∷ rs) ≡ record { count = 1; val_type = t } ∷ record { count = n; val_type = u } ∷ rs
joins_other t u n rs e = rw (e, joins) refl

leading_same : (t u : ValType) (us : List ValType) → same_type t u ≡ true → leading t (u ∷ us) ≡ suc (leading t us)
leading_same t u us e = rw (e, leading) refl

leading_other : (t u : ValType) (us : List ValType) → same_type t u ≡ false → leading t (u ∷ us) ≡ zero
leading_other t u us e = rw (e, leading) refl

-- the first local, and those after it that are of its type
joined_leading : (t : ValType) (us : List ValType) → joined (t ∷ us) ≡ record { count = leading t us + 1; val_type = t } ∷ joined (drop (leading t us) us)
joined_leading t [] = refl
joined_leading t (u ∷ us) =
    ⊎_elim
    (λ e. (let same : t ≡ u = type_one t u e in
    let one : joined (t ∷ u ∷ us) ≡ joins t (joined (t ∷ us)) = ap (λ v. joins t (joined (v ∷ us))) (sym same) in
    one ∙ ap (joins t) (joined_leading t us)
    ∙ joins_same t t (leading t us + 1) (joined (drop (leading t us) us)) (type_self t)
    ∙ rw (leading_same t u us e) (ap (λ n. record { count = n; val_type = t } ∷ joined (drop (leading t us) us)) (let n : (leading t us + 1) + 1 ≡ suc (leading t us) + 1 = omega arith in n))))
    (λ e. (ap (joins t) (joined_leading u us)
    ∙ joins_other t u (leading u us + 1) (joined (drop (leading u us) us)) e
    ∙ rw (leading_other t u us e) (ap (λ rs. record { count = 1; val_type = t } ∷ rs) (sym (joined_leading u us)))))
    (cases_Bool (same_type t u))

-- the first run of locals
pub first_joined : (other : types.ValType) (ls : List types.ValType) → 0 < length ls → (let first = val_view (get_or ls 0 other) in let count = leading first (map val_view ls) in
    joined (map val_view ls) ≡ record { count = count; val_type = first } ∷ joined (map val_view (drop count ls)))
first_joined other [] n = absurd (omega arith)
first_joined other (l ∷ ls) n =
    let t = val_view l in let us = map val_view ls in
    let more : leading t (t ∷ us) ≡ leading t us + 1 = leading_same t t us (type_self t) ∙ (let s : suc (leading t us) ≡ leading t us + 1 = omega arith in s) in
    joined_leading t us ∙ ap (λ n. record { count = n; val_type = t } ∷ joined (drop (leading t us) us)) (sym more)
    ∙ ap (λ rs. record { count = leading t (t ∷ us); val_type = t } ∷ joined rs)
    (drop-map val_view (leading t us) ls ∙ ap (λ n. map val_view (drop n (l ∷ ls))) (sym (leading_same t t us (type_self t))))

pub all_at : {A : Type 0} (P : A → Type 0) (xs : List A) (y : A) (ys : List A) → AllByRecursion P (xs ++ (y ∷ ys)) → P y
all_at P [] y ys h = h.0
all_at P (x ∷ xs) y ys h = all_at P xs y ys h.1

pub all_more : {A : Type 0} (P : A → Type 0) (xs : List A) (y : A) → AllByRecursion P xs → P y → AllByRecursion P (xs ++ (y ∷ []))
all_more P [] y h p = (p, tt)
all_more P (x ∷ xs) y h p = (h.0, all_more P xs y h.1 p)
