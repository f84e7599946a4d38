-- What the tests of well-formedness say of fields.
use Rattle.std.proofs.Common.{◌≡◌, ℕ, zero, suc, ◌+◌, ◌^◌, Bool, true, false, List, [], ◌∷◌, length, map, All, Option, Some, None, refl, sym, ◌∙◌, ap, arith, subst, inl, inr}
use Rattle.std.specs.Prelude.{◌&&◌, ◌||◌, not, nat_eq, nat_lt, option_to_list}
use Rattle.std.specs.List.{list_all, list_any}
use Rattle.std.proofs.lemmas.Bool.{false≢true, cases_Bool, eqb-true, ltb-true, ltb-false, not-true}
use Rattle.std.proofs.lemmas.List.Elements.{All-nil, All-cons}
use Rattle.wasm_encoder_base.specs.Table.{Tables, Memories}
use Rattle.wasm_encoder_base.specs.Balanced.{Turn, Opens, Closes, Stays, turn_of, turned, IsBalanced}
use Rattle.wast_mnemonics.specs.Heads.{Head, Listed, Unlisted}
use Rattle.wast_core_instr.specs.InstructionTree.{Operands, Instruction}
use Rattle.wast_core_instr.specs.InstructionTree as instr
use Rattle.wast_expressions.specs.Items.{Hint}
use Rattle.wast_module_fields.specs.FieldTree.{Expr, Elements, Indices, Expressions, Defined, Func, Table, TableOf, Global, ElemMode, ActiveElem, DataMode, ActiveData, Field, Define, ElemField, DataField}
use Rattle.wast_meaning.specs.Mentions.{Part, Constant, ref_mentions, val_mentions, refers_if, says, elements_parts, defined_parts, elem_mode_parts, data_mode_parts}
use Rattle.wast_meaning.specs.Scope.{turn_of_head}
use Rattle.wast_meaning.specs.Numbered.{resolved}
use Rattle.wast_meaning.specs.WellFormed.{is_power, are_hints, turned_then, is_aligned, is_balanced, is_formed, part_formed, breaches}
use Rattle.wast_meaning.proofs.Hints.{are_hints_from, hints_same}
use Rattle.wast_meaning.proofs.Settled.{left, right, front, back}
use Rattle.wast_conversions.specs.Operands.{IsPower, OperandsAligned}
use Rattle.wast_conversions.specs.Instructions.{opcode_of, instrs_meant}
use Rattle.wast_conversions.specs.Resolved.{IfThere}
use Rattle.wast_encode_laws.specs.Formed.{HintsFit, IsFormed, IsConstant, ElementsFormed, DefinedFormed, ElemModeFormed, DataModeFormed, FieldFormed}
use Rattle.wast_encode_laws.proofs.FormedKept.{parts_formed, resolved_formed}

-- what follows of each element that passes a test
all_is : {A : Type 0} (q : A → Bool) (Q : A → Type 0) → ((x : A) → q x ≡ true → Q x) → (xs : List A) → list_all q xs ≡ true → All Q xs
all_is q Q so [] e = All-nil Q
all_is q Q so (x ∷ xs) e = All-cons Q x xs (so x (left (q x) (list_all q xs) e)) (all_is q Q so xs (right (q x) (list_all q xs) e))

-- POWERS OF TWO
one_of : (n : ℕ) (ks : List ℕ) → list_all (λ k. nat_lt k 16) ks ≡ true → list_any (nat_eq n) (map (λ k. 2 ^ k) ks) ≡ true → IsPower n
one_of n [] small e = elim (false≢true e) [ ]
one_of n (k ∷ ks) small e = elim (cases_Bool (nat_eq n (2 ^ k))) [
  | inl y ↦ (k, ltb-true k 16 (left (nat_lt k 16) (list_all (λ j. nat_lt j 16) ks) small), eqb-true n (2 ^ k) y)
  | inr z ↦ one_of n ks (right (nat_lt k 16) (list_all (λ j. nat_lt j 16) ks) small) (ap (λ b. b || list_any (nat_eq n) (map (λ j. 2 ^ j) ks)) (sym z) ∙ e)
]

power_is : (n : ℕ) → is_power n ≡ true → IsPower n
power_is n e = one_of n (0 ∷ 1 ∷ 2 ∷ 3 ∷ 4 ∷ 5 ∷ 6 ∷ 7 ∷ 8 ∷ 9 ∷ 10 ∷ 11 ∷ 12 ∷ 13 ∷ 14 ∷ 15 ∷ []) refl e

-- HINTS
hints_fit : (least len : ℕ) (hs : List Hint) → are_hints_from least len hs ≡ true → HintsFit least len hs
hints_fit least len [] e = tt
hints_fit least len (h ∷ hs) e =
    let above = not (nat_lt h.index least) in
    let inside = nat_lt h.index len in
    let small = nat_lt h.value 128 in
    let rest = are_hints_from (h.index + 1) len hs in
    let three = left (above && inside && small) rest e in
    let first = left (above && inside) small three in (
      ltb-false h.index least (not-true (nat_lt h.index least) (left above inside first)),
      ltb-true h.index len (right above inside first),
      ltb-true h.value 128 (right (above && inside) small three),
      hints_fit (h.index + 1) len hs (right (above && inside && small) rest e),
    )

-- BALANCED EXPRESSIONS
head_turn : (h : Head) → turn_of_head h ≡ turn_of (opcode_of h)
head_turn (Listed e) = refl
head_turn (Unlisted mnemonic) = refl

turn_is : (t : Turn) (f : ℕ → Bool) (F : ℕ → Type 0) → ((n : ℕ) → f n ≡ true → F n) → (n : ℕ) → turned_then t f n ≡ true → turned t F n
turn_is Opens f F so n e = let more : n + 1 ≡ suc n = omega arith in subst F more (so (n + 1) e)
turn_is Closes f F so zero e = elim (false≢true e) [ ]
turn_is Closes f F so (suc n) e = so n e
turn_is Stays f F so n e = so n e

module _ {N P : Type 0} where
  balanced_is : (is : List (Instruction N P)) (n : ℕ) → is_balanced is n ≡ true → IsBalanced (instrs_meant is) n
  balanced_is [] n e = eqb-true n 0 e
  balanced_is (i ∷ is) n e =
      let Then : Turn → Type 0 = λ t. turned t (IsBalanced (instrs_meant is)) n in
      subst Then (head_turn i.head) (turn_is (turn_of_head i.head) (is_balanced is) (IsBalanced (instrs_meant is)) (balanced_is is) n e)

  -- EXPRESSIONS
  operands_are : (x : Operands N P) → is_aligned x ≡ true → OperandsAligned x
  operands_are (instr.Memory m) e = power_is m.align e
  operands_are (instr.MemoryLane m n) e = power_is m.align e
  operands_are _ e = tt

  formed_is : (e : Expr N P) → is_formed e ≡ true → IsFormed e
  formed_is e h =
      let aligned = list_all (λ (i : Instruction N P). is_aligned i.operands) e.instrs in
      let fit = are_hints (length e.instrs) e.hints in
      record {
        aligned = all_is (λ (i : Instruction N P). is_aligned i.operands) (λ (i : Instruction N P). OperandsAligned i.operands) (λ i a. operands_are i.operands a) e.instrs (left aligned fit h);
        hints = hints_fit 0 (length e.instrs) e.hints (hints_same (length e.instrs) e.hints ∙ right aligned fit h);
      }

  constant_is : (e : Expr N P) → part_formed (Constant e) ≡ true → IsConstant e
  constant_is e h = record {
    formed = formed_is e (left (is_formed e) (is_balanced e.instrs 0) h);
    balanced = balanced_is e.instrs 0 (right (is_formed e) (is_balanced e.instrs 0) h);
  }

  -- FIELDS, part by part
  abbrev pub PartsFormed : List (Part N P) → Type 0
  PartsFormed ps = list_all part_formed ps ≡ true

  one_is : (e : Expr N P) → PartsFormed (Constant e ∷ []) → IsConstant e
  one_is e h = constant_is e (left (part_formed (Constant e)) true h)

  constants_are : (es : List (Expr N P)) → PartsFormed (map Constant es) → All IsConstant es
  constants_are [] h = All-nil IsConstant
  constants_are (e ∷ es) h =
      All-cons IsConstant e es (constant_is e (left (part_formed (Constant e)) (list_all part_formed (map Constant es)) h)) (constants_are es (right (part_formed (Constant e)) (list_all part_formed (map Constant es)) h))

  init_is : (o : Option (Expr N P)) → PartsFormed (map Constant (option_to_list o)) → IfThere IsConstant o
  init_is None h = tt
  init_is (Some e) h = one_is e h

  elements_are : (es : Elements N P) → PartsFormed (elements_parts es) → ElementsFormed es
  elements_are (Indices is) h = tt
  elements_are (Expressions t es) h = constants_are es (back part_formed (says (ref_mentions t)) (map Constant es) h)

  defined_is : (d : Defined N P) → PartsFormed (defined_parts d) → DefinedFormed d
  defined_is (Func f) h = formed_is f.body (left (is_formed f.body) true h)
  defined_is (Table t init) h = init_is init (back part_formed (says (ref_mentions t.element)) (map Constant (option_to_list init)) h)
  defined_is (TableOf wide t es) h = elements_are es (back part_formed (says (ref_mentions t)) (elements_parts es) h)
  defined_is (Global t init) h = one_is init (back part_formed (says (val_mentions t.val_type)) (Constant init ∷ []) h)
  defined_is _ h = tt

  elem_mode_is : (m : ElemMode N P) → PartsFormed (elem_mode_parts m) → ElemModeFormed m
  elem_mode_is (ActiveElem t offset) h = one_is offset (back part_formed (says (refers_if Tables t)) (Constant offset ∷ []) h)
  elem_mode_is _ h = tt

  data_mode_is : (m : DataMode N P) → PartsFormed (data_mode_parts m) → DataModeFormed m
  data_mode_is (ActiveData t offset) h = one_is offset (back part_formed (says (refers_if Memories t)) (Constant offset ∷ []) h)
  data_mode_is _ h = tt

  field_is : (f : Field N P) → parts_formed f ≡ true → FieldFormed f
  field_is (Define d) h = defined_is d.defined h
  field_is (ElemField e) h =
      (elem_mode_is e.mode (front part_formed (elem_mode_parts e.mode) (elements_parts e.elements) h), elements_are e.elements (back part_formed (elem_mode_parts e.mode) (elements_parts e.elements) h))
  field_is (DataField d) h = data_mode_is d.mode h
  field_is _ h = tt

module _ {N P : Type 0} (eq : N → N → Bool) (is_made : N → Bool) (naming : ℕ → N) (fs : List (Field N P)) where
  pub formed : breaches eq is_made fs ≡ [] → All FieldFormed (resolved eq naming fs)
  formed h = all_is parts_formed FieldFormed field_is (resolved eq naming fs) (resolved_formed eq is_made naming fs h)
