-- Instructions are told apart by their bytes: no opcode of the table begins another.
use Rattle.std.proofs.Common.{ℕ, zero, suc, ◌≡◌, ◌≢◌, ◌⊎◌, Bool, true, false, List, [], ◌∷◌, ◌++◌, Option, Some, None, refl, sym, ap, ◌∙◌, subst, inl, inr, ⊎_elim, append_assoc, flat_map, length, filter}
use Rattle.std.proofs.lemmas.Bool.{eq-eqb}
use Rattle.std.proofs.lemmas.List.{append_cancel_left, append_cancel_right}
use Rattle.std.specs.Cmp.Lexicographic.{same_text as text_equal}
use Rattle.std.specs.List.{AllByRecursion}
use Rattle.std.specs.Option.{option_map}
use Rattle.std.proofs.lemmas.Option.{same_Some}
use Rattle.wasm_encoder_bytes.specs.Leb.{uleb, leb, digits}
use Rattle.wasm_encoder_base.specs.Instr.{Instr, Kind, Nothing, kind_of, kind_of_syntax, operand_bytes, instr_bytes, expr_bytes, kind_at, IsInstr}
use Rattle.wasm_encoder_base.specs.Balanced.{Turn, Opens, Closes, Stays, turn_of, turned, IsBalanced}
use Rattle.wasm_encoder_base.specs.Table.{Entry, table, entry_among, entry_at, same_text}
use Rattle.wasm_encoder_base.specs.Distinct.{opcodes, mnemonics, single_mnemonic, are_distinct, begins, apart_from, are_apart}
use Rattle.wasm_encoder_bytes.specs.Unique.{Unique, Injective}
use Rattle.wasm_encoder_base.proofs.UniqueOperands.{operands_one}
use Rattle.wasm_encoder_bytes.proofs.UniqueParts.{cons_head, cons_tail, injective_all}

pub opcodes-apart : are_apart (opcodes table) ≡ true
unfolding table uleb leb digits
opcodes-apart = refl

pub opcodes-distinct : are_distinct (opcodes table) ≡ true
unfolding table uleb leb digits
opcodes-distinct = refl

pub mnemonics-distinct : are_distinct (mnemonics (filter single_mnemonic table)) ≡ true
unfolding table uleb leb digits
mnemonics-distinct = refl

pub table-entries : length table ≡ 575
unfolding table uleb leb digits
table-entries = refl

no-empty-opcode : entry_at [] ≡ None
unfolding entry_at table uleb leb digits
no-empty-opcode = refl

-- what a test that chooses by another knows
both-true : (a b : Bool) → (elim a as (λ _. Bool) [ true ↦ b | false ↦ false ]) ≡ true → (a ≡ true) × (b ≡ true)
both-true true b e = (refl, e)
both-true false b e = cc

neither-true : (a b : Bool) → (elim a as (λ _. Bool) [ true ↦ false | false ↦ b ]) ≡ true → (a ≡ false) × (b ≡ true)
neither-true true b e = cc
neither-true false b e = (refl, e)

-- an entry that stands in the list: here, or later
entry-cases : (a : Bool) (e entry : Entry) (rest : Option Entry) → (elim a as (λ _. Option Entry) [ true ↦ Some e | false ↦ rest ]) ≡ Some entry → (a ≡ true) ⊎ (rest ≡ Some entry)
entry-cases true e entry rest q = inl refl
entry-cases false e entry rest q = inr q

same-text : (a b : List ℕ) → same_text a b ≡ true → a ≡ b
same-text a b e = text_equal a b (sym e)

begins-either : (a b r s : List ℕ) → a ++ r ≡ b ++ s → (begins a b ≡ true) ⊎ (begins b a ≡ true)
begins-either [] b r s e = inl refl
begins-either (x ∷ xs) [] r s e = inr refl
begins-either (x ∷ xs) (y ∷ ys) r s e =
    ⊎_elim (λ p. inl (rw (eq-eqb x y (cons_head e), begins) p)) (λ p. inr (rw (eq-eqb y x (sym (cons_head e)), begins) p)) (begins-either xs ys r s (cons_tail e))

-- a text apart from those of a list that has this one
apart-at : (x b : List ℕ) (es : List Entry) (entry : Entry) → apart_from x (opcodes es) ≡ true → entry_among b es ≡ Some entry → (begins x b ≡ false) × (begins b x ≡ false)
apart-at x b [] entry p q = cc
apart-at x b (y ∷ ys) entry p q =
    let h = neither-true (begins x y.opcode) _ p in
    let k = neither-true (begins y.opcode x) (apart_from x (opcodes ys)) h.1 in
    ⊎_elim (λ e. let f = same-text b y.opcode e in rw f (h.0, k.0)) (λ e. apart-at x b ys entry k.1 e) (entry-cases (same_text b y.opcode) y entry (entry_among b ys) q)

true-false : {Z : Type 0} (b : Bool) → b ≡ true → b ≡ false → Z
true-false b p q = absurd cc

-- of two texts that begin alike neither is apart from the other
not-apart : {Z : Type 0} (a b r s : List ℕ) → a ++ r ≡ b ++ s → begins a b ≡ false → begins b a ≡ false → Z
not-apart a b r s e p q = ⊎_elim (λ m. true-false (begins a b) m p) (λ m. true-false (begins b a) m q) (begins-either a b r s e)

-- two opcodes of a list of which none begins another
apart-same : (es : List Entry) (a b r s : List ℕ) (j k : Entry) → are_apart (opcodes es) ≡ true → entry_among a es ≡ Some j → entry_among b es ≡ Some k → a ++ r ≡ b ++ s → a ≡ b
apart-same [] a b r s j k t p q e = cc
apart-same (x ∷ xs) a b r s j k t p q e =
    let u = both-true (apart_from x.opcode (opcodes xs)) (are_apart (opcodes xs)) t in
    ⊎_elim
    (λ f. ⊎_elim (λ g. same-text a x.opcode f ∙ sym (same-text b x.opcode g))
    (λ g. let z = same-text a x.opcode f in let w = apart-at x.opcode b xs k u.0 g in not-apart x.opcode b r s (subst (λ v. v ++ r ≡ b ++ s) z e) w.0 w.1)
    (entry-cases (same_text b x.opcode) x k (entry_among b xs) q))
    (λ f. ⊎_elim
    (λ g. let z = same-text b x.opcode g in let w = apart-at x.opcode a xs j u.0 f in not-apart a x.opcode r s (subst (λ v. a ++ r ≡ v ++ s) z e) w.1 w.0)
    (λ g. apart-same xs a b r s j k u.1 f g e)
    (entry-cases (same_text b x.opcode) x k (entry_among b xs) q))
    (entry-cases (same_text a x.opcode) x j (entry_among a xs) p)

opcode-one : (a b r s : List ℕ) (j k : Entry) → entry_at a ≡ Some j → entry_at b ≡ Some k → a ++ r ≡ b ++ s → a ≡ b
unfolding entry_at
opcode-one a b r s j k p q e = apart-same table a b r s j k opcodes-apart p q e

-- an opcode with operands has an entry
has_entry : (k : Kind) (found : Option Entry) → option_map (λ e. kind_of_syntax e.operands) found ≡ Some k → (entry : Entry) × (found ≡ Some entry)
has_entry k (Some entry) e = (entry, refl)
has_entry k None e = absurd cc

entry_listed : (o : List ℕ) (k : Kind) → kind_at o ≡ Some k → (entry : Entry) × (entry_at o ≡ Some entry)
entry_listed o k e = has_entry k (entry_at o) e

-- opcodes of the table are told apart, whatever follows
pub opcode_listed : (a b r s : List ℕ) (j k : Kind) → kind_at a ≡ Some j → kind_at b ≡ Some k → a ++ r ≡ b ++ s → a ≡ b
opcode_listed a b r s j k p q e = let u = entry_listed a j p in let v = entry_listed b k q in opcode-one a b r s u.0 v.0 u.1 v.1 e

pub unique_instr : Unique IsInstr instr_bytes
unique_instr = record {
  reads = λ i j r s p q e. (
      let f : i.opcode ++ (operand_bytes i.operands ++ r) ≡ j.opcode ++ (operand_bytes j.operands ++ s) = sym (append_assoc i.opcode (operand_bytes i.operands) r) ∙ e ∙ append_assoc j.opcode (operand_bytes j.operands) s in
      let o = opcode_listed i.opcode j.opcode _ _ _ _ p.listed q.listed f in
      let k : kind_of i.operands ≡ kind_of j.operands = same_Some _ _ (sym p.listed ∙ ap kind_at o ∙ q.listed) in
      let rest = append_cancel_left j.opcode (operand_bytes i.operands ++ r) (operand_bytes j.operands ++ s) (ap (λ v. v ++ (operand_bytes i.operands ++ r)) (sym o) ∙ f) in
      let h = operands_one i.operands j.operands r s k p.ranges q.ranges rest in
      (λ t. record { opcode = o t; operands = h.0 t }, h.1));
}

-- no instruction has no bytes
opcode-full : (o : List ℕ) (entry : Entry) → entry_at o ≡ Some entry → o ≢ []
opcode-full o entry p e = let n : None ≡ Some entry = sym no-empty-opcode ∙ ap entry_at (sym e) ∙ p in cc

append-full : (a b : List ℕ) → a ++ b ≡ [] → a ≡ []
append-full [] b e = refl
append-full (x ∷ a) b e = cc

instr-full : (i : Instr) → IsInstr i → instr_bytes i ≢ []
instr-full i p e = let u = entry_listed i.opcode (kind_of i.operands) p.listed in opcode-full i.opcode u.0 u.1 (append-full i.opcode (operand_bytes i.operands) e)

-- a body that ends where its bytes end
pub injective_expr : Injective (AllByRecursion IsInstr) expr_bytes
injective_expr = record { reads = λ x y p q e. (injective_all unique_instr instr-full).reads x y p q (append_cancel_right (flat_map instr_bytes x) (flat_map instr_bytes y) (0x0B ∷ []) e) }

-- the end is an instruction
end_listed : kind_at (0x0B ∷ []) ≡ Some Nothing
unfolding entry_at table uleb leb digits
end_listed = refl

-- no instruction that may stand where no block is open begins with the end
not_end : (i : Instr) (is : List Instr) (d : ℕ) (r s : List ℕ) → d ≡ 0 → IsInstr i → IsBalanced (i ∷ is) d → 0x0B ∷ r ≡ (i.opcode ++ operand_bytes i.operands) ++ s → ⊥
not_end i is d r s z p b e =
    let f : (0x0B ∷ []) ++ r ≡ i.opcode ++ (operand_bytes i.operands ++ s) = e ∙ append_assoc i.opcode (operand_bytes i.operands) s in
    let o : 0x0B ∷ [] ≡ i.opcode = opcode_listed (0x0B ∷ []) i.opcode r (operand_bytes i.operands ++ s) Nothing (kind_of i.operands) end_listed p.listed f in
    let c : turned (turn_of i.opcode) (IsBalanced is) 0 = subst (λ n. turned (turn_of i.opcode) (IsBalanced is) n) z b in
    subst (λ v. turned (turn_of v) (IsBalanced is) 0) (sym o) c

turned_both : (t : Turn) (P Q : ℕ → Type 0) (d : ℕ) → turned t P d → turned t Q d → (e : ℕ) × (P e × Q e)
turned_both Opens P Q d p q = (suc d, (p, q))
turned_both Closes P Q zero p q = absurd p
turned_both Closes P Q (suc d) p q = (d, (p, q))
turned_both Stays P Q d p q = (d, (p, q))

expr_one : (is js : List Instr) (d : ℕ) (r s : List ℕ) → AllByRecursion IsInstr is → AllByRecursion IsInstr js → IsBalanced is d → IsBalanced js d → flat_map instr_bytes is ++ (0x0B ∷ r) ≡ flat_map instr_bytes js ++ (0x0B ∷ s) → (is ≡ js) × (r ≡ s)
expr_one [] [] d r s p q b c e = (refl, cons_tail e)
expr_one [] (j ∷ js) d r s p q b c e = absurd (not_end j js d r (flat_map instr_bytes js ++ (0x0B ∷ s)) b q.0 c (e ∙ append_assoc (instr_bytes j) (flat_map instr_bytes js) (0x0B ∷ s)))
expr_one (i ∷ is) [] d r s p q b c e = absurd (not_end i is d s (flat_map instr_bytes is ++ (0x0B ∷ r)) c p.0 b (sym e ∙ append_assoc (instr_bytes i) (flat_map instr_bytes is) (0x0B ∷ r)))
expr_one (i ∷ is) (j ∷ js) d r s p q b c e =
    let h = unique_instr.reads i j (flat_map instr_bytes is ++ (0x0B ∷ r)) (flat_map instr_bytes js ++ (0x0B ∷ s)) p.0 q.0 (sym (append_assoc (instr_bytes i) (flat_map instr_bytes is) (0x0B ∷ r)) ∙ e ∙ append_assoc (instr_bytes j) (flat_map instr_bytes js) (0x0B ∷ s)) in
    let a : turned (turn_of j.opcode) (IsBalanced is) d = subst (λ (v : Instr). turned (turn_of v.opcode) (IsBalanced is) d) h.0 b in
    let t = turned_both (turn_of j.opcode) (IsBalanced is) (IsBalanced js) d a c in
    let k = expr_one is js t.0 r s p.1 q.1 t.1.0 t.1.1 h.1 in
    (λ n. h.0 n ∷ k.0 n, k.1)

-- an expression, whatever follows it
pub unique_expr : Unique (λ (is : List Instr). AllByRecursion IsInstr is × IsBalanced is 0) expr_bytes
unique_expr = record { reads = λ is js r s p q e. expr_one is js 0 r s p.0 q.0 p.1 q.1 (sym (append_assoc (flat_map instr_bytes is) (0x0B ∷ []) r) ∙ e ∙ append_assoc (flat_map instr_bytes js) (0x0B ∷ []) s) }
