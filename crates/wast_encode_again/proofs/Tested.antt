-- Fields of which it is known that they are well formed pass the tests of that.
use Rattle.std.proofs.Common.{◌≡◌, ℕ, zero, suc, ◌+◌, ◌^◌, Bool, true, List, [], ◌∷◌, length, map, All, Option, Some, None, refl, sym, ◌∙◌, ap, arith, subst}
use Rattle.std.specs.Prelude.{not, option_to_list}
use Rattle.std.specs.List.{flat_map, list_all}
use Rattle.std.specs.Cmp.Derive.{both_true}
use Rattle.std.proofs.lemmas.Bool.{lt-ltb, le-ltb, eq-eqb, agree_below_at}
use Rattle.std.proofs.lemmas.List.Elements.{All-head, All-tail}
use Rattle.wasm_encoder_base.specs.Table.{Functions, Tables, Memories}
use Rattle.wasm_encoder_base.specs.Balanced.{Turn, Opens, Closes, Stays, turn_of, turned, IsBalanced}
use Rattle.wast_mnemonics.specs.Heads.{Head, Listed, Unlisted}
use Rattle.wast_core_instr.specs.InstructionTree.{Operands, Instruction}
use Rattle.wast_core_instr.specs.InstructionTree as instr
use Rattle.wast_expressions.specs.Items.{Hint}
use Rattle.wast_field_syntax.specs.FieldTree.{Expr, Elements, Indices, Expressions, Defined, Imported, Func, Table, TableOf, Memory, MemoryOf, Global, Tag, ElemMode, PassiveElem, DeclaredElem, ActiveElem, DataMode, PassiveData, ActiveData, Field, TypeField, RecField, ImportField, Define, ExportField, StartField, ElemField, DataField, CustomField}
use Rattle.wast_meaning.specs.Mentions.{Mention, Refers, Constant, ref_mentions, val_mentions, type_mentions, extern_mentions, import_mentions, refers_if, says, elements_parts, defined_parts, elem_mode_parts, data_mode_parts, parts}
use Rattle.wast_meaning.specs.Scope.{turn_of_head}
use Rattle.wast_meaning.specs.WellFormed.{is_power, turned_then, is_aligned, is_balanced, is_formed, part_formed}
use Rattle.wast_meaning.proofs.Hints.{are_hints_from, hints_same}
use Rattle.wast_conversions.specs.Operands.{IsPower, OperandsAligned}
use Rattle.wast_conversions.specs.Instructions.{opcode_of, instrs_meant}
use Rattle.wast_conversions.specs.Resolved.{IfThere}
use Rattle.wast_resolve_laws.proofs.Taking.{both}
use Rattle.wast_encode_laws.specs.Formed.{HintsFit, IsFormed, IsConstant, ElementsFormed, DefinedFormed, ElemModeFormed, DataModeFormed, FieldFormed}
use Rattle.wast_encode_laws.proofs.Formed.{PartsFormed}

pub all_tested : {A : Type 0} (q : A → Bool) (Q : A → Type 0) → ((x : A) → Q x → q x ≡ true) → (xs : List A) → All Q xs → list_all q xs ≡ true
all_tested q Q so [] h = refl
all_tested q Q so (x ∷ xs) h = both_true (so x (All-head Q x xs h)) (all_tested q Q so xs (All-tail Q x xs h))

power_tested : (n : ℕ) → IsPower n → is_power n ≡ true
power_tested n p = ap is_power p.2 ∙ agree_below_at (λ k. is_power (2 ^ k)) (λ k. true) 16 p.0 refl p.1

hints_tested : (least len : ℕ) (hs : List Hint) → HintsFit least len hs → are_hints_from least len hs ≡ true
hints_tested least len [] h = refl
hints_tested least len (x ∷ hs) h =
    both_true (both_true (both_true (ap not (le-ltb x.index least h.0)) (lt-ltb x.index len h.1)) (lt-ltb x.value 128 h.2)) (hints_tested (x.index + 1) len hs h.3)

-- BALANCED EXPRESSIONS
head_turn : (h : Head) → turn_of (opcode_of h) ≡ turn_of_head h
head_turn (Listed e) = refl
head_turn (Unlisted mnemonic) = refl

turn_tested : (t : Turn) (f : ℕ → Bool) (F : ℕ → Type 0) → ((n : ℕ) → F n → f n ≡ true) → (n : ℕ) → turned t F n → turned_then t f n ≡ true
turn_tested Opens f F so n h = let more : suc n ≡ n + 1 = omega arith in so (n + 1) (subst F more h)
turn_tested Closes f F so zero h = absurd h
turn_tested Closes f F so (suc n) h = so n h
turn_tested Stays f F so n h = so n h

module _ {N P : Type 0} where
  balanced_tested : (is : List (Instruction N P)) (n : ℕ) → IsBalanced (instrs_meant is) n → is_balanced is n ≡ true
  balanced_tested [] n h = eq-eqb n 0 h
  balanced_tested (i ∷ is) n h =
      let Then : Turn → Type 0 = λ t. turned t (IsBalanced (instrs_meant is)) n in
      turn_tested (turn_of_head i.head) (is_balanced is) (IsBalanced (instrs_meant is)) (balanced_tested is) n (subst Then (head_turn i.head) h)

  -- EXPRESSIONS
  operands_tested : (x : Operands N P) → OperandsAligned x → is_aligned x ≡ true
  operands_tested (instr.Memory m) h = power_tested m.align h
  operands_tested (instr.MemoryLane m n) h = power_tested m.align h
  operands_tested _ h = refl

  formed_tested : (e : Expr N P) → IsFormed e → is_formed e ≡ true
  formed_tested e h =
      both_true
      (all_tested (λ (i : Instruction N P). is_aligned i.operands) (λ (i : Instruction N P). OperandsAligned i.operands) (λ i a. operands_tested i.operands a) e.instrs h.aligned)
      (sym (hints_same (length e.instrs) e.hints) ∙ hints_tested 0 (length e.instrs) e.hints h.hints)

  constant_tested : (e : Expr N P) → IsConstant e → part_formed (Constant e) ≡ true
  constant_tested e h = both_true (formed_tested e h.formed) (balanced_tested e.instrs 0 h.balanced)

  -- FIELDS, part by part
  said_tested : (ms : List (Mention N P)) → PartsFormed (says ms)
  said_tested [] = refl
  said_tested (m ∷ ms) = said_tested ms

  one_tested : (e : Expr N P) → IsConstant e → PartsFormed (Constant e ∷ [])
  one_tested e h = both_true (constant_tested e h) refl

  constants_tested : (es : List (Expr N P)) → All IsConstant es → PartsFormed (map Constant es)
  constants_tested [] h = refl
  constants_tested (e ∷ es) h = both_true (constant_tested e (All-head IsConstant e es h)) (constants_tested es (All-tail IsConstant e es h))

  init_tested : (o : Option (Expr N P)) → IfThere IsConstant o → PartsFormed (map Constant (option_to_list o))
  init_tested None h = refl
  init_tested (Some e) h = one_tested e h

  elements_tested : (es : Elements N P) → ElementsFormed es → PartsFormed (elements_parts es)
  elements_tested (Indices is) h = said_tested (map (Refers Functions) is)
  elements_tested (Expressions t es) h = both part_formed (says (ref_mentions t)) (map Constant es) (said_tested (ref_mentions t)) (constants_tested es h)

  defined_tested : (d : Defined N P) → DefinedFormed d → PartsFormed (defined_parts d)
  defined_tested (Imported from name t) h = said_tested (extern_mentions t)
  defined_tested (Func f) h = both_true (formed_tested f.body h) refl
  defined_tested (Table t init) h = both part_formed (says (ref_mentions t.element)) (map Constant (option_to_list init)) (said_tested (ref_mentions t.element)) (init_tested init h)
  defined_tested (TableOf wide t es) h = both part_formed (says (ref_mentions t)) (elements_parts es) (said_tested (ref_mentions t)) (elements_tested es h)
  defined_tested (Memory t) h = refl
  defined_tested (MemoryOf wide page vs) h = refl
  defined_tested (Global t init) h = both part_formed (says (val_mentions t.val_type)) (Constant init ∷ []) (said_tested (val_mentions t.val_type)) (one_tested init h)
  defined_tested (Tag u) h = refl

  elem_mode_tested : (m : ElemMode N P) → ElemModeFormed m → PartsFormed (elem_mode_parts m)
  elem_mode_tested PassiveElem h = refl
  elem_mode_tested DeclaredElem h = refl
  elem_mode_tested (ActiveElem t offset) h = both part_formed (says (refers_if Tables t)) (Constant offset ∷ []) (said_tested (refers_if Tables t)) (one_tested offset h)

  data_mode_tested : (m : DataMode N P) → DataModeFormed m → PartsFormed (data_mode_parts m)
  data_mode_tested PassiveData h = refl
  data_mode_tested (ActiveData t offset) h = both part_formed (says (refers_if Memories t)) (Constant offset ∷ []) (said_tested (refers_if Memories t)) (one_tested offset h)

  pub field_tested : (f : Field N P) → FieldFormed f → PartsFormed (parts f)
  field_tested (TypeField t) h = said_tested (type_mentions t)
  field_tested (RecField r) h = said_tested (flat_map type_mentions r.types)
  field_tested (ImportField i) h = said_tested (import_mentions i.items)
  field_tested (Define d) h = defined_tested d.defined h
  field_tested (ExportField e) h = refl
  field_tested (StartField s) h = refl
  field_tested (ElemField e) h =
      both part_formed (elem_mode_parts e.mode) (elements_parts e.elements) (elem_mode_tested e.mode h.0) (elements_tested e.elements h.1)
  field_tested (DataField d) h = data_mode_tested d.mode h
  field_tested (CustomField c) h = refl
