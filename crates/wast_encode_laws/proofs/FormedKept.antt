-- Fields that are well formed stay so where they are written out, take their types and get their numbers.
use Rattle.std.proofs.Common.{◌≡◌, ℕ, zero, suc, ◌+◌, Bool, true, false, List, [], ◌∷◌, ◌++◌, length, map, Option, refl, ◌∙◌, ap}
use Rattle.std.specs.Prelude.{◌&&◌, ◌||◌, not, if◌then◌else◌}
use Rattle.std.specs.List.{list_all}
use Rattle.std.specs.Cmp.Derive.{both_true}
use Rattle.wasm_encoder_base.specs.Table.{OperandSyntax}
use Rattle.wasm_encoder_base.specs.Balanced.{Turn, Opens, Closes, Stays}
use Rattle.wast_parser.specs.Identifiers.{Named}
use Rattle.wast_exports.specs.Exports.{ExportKind}
use Rattle.wast_signatures.specs.TypeTree.{Sig}
use Rattle.wast_core_instr.specs.InstructionTree.{Operands, Instruction}
use Rattle.wast_core_instr.specs.InstructionTree as instr
use Rattle.wast_expressions.specs.Items.{Hint}
use Rattle.wast_module_fields.specs.FieldTree.{Defined, Imported, Func, Table, TableOf, Memory, MemoryOf, Global, Tag, Definition, Field, TypeField, RecField, ImportField, Define, ExportField, StartField, ElemField, DataField, CustomField, is_start, field_place}
use Rattle.wast_names.specs.Walk.{walked}
use Rattle.wast_meaning.specs.Written.{kind_of, field_of, export_of, segment_of, name_or, field_out, written_from, written_out}
use Rattle.wast_meaning.specs.Mentions.{Mention, Part, Says, Constant, Body, syntax_of, ref_mentions, sig_mentions, says, elements_parts, defined_parts, parts}
use Rattle.wast_meaning.specs.Implied.{implied, type_taken}
use Rattle.wast_meaning.specs.Scope.{Scope, scope_of, turn_of_head}
use Rattle.wast_meaning.specs.Demands.{field_demands}
use Rattle.wast_meaning.specs.Changed.{Change, Changes, operands_changed, instrs_changed, field_changed}
use Rattle.wast_meaning.specs.Numbered.{with_types, implied_field, numberings, expanded, resolved}
use Rattle.wast_meaning.specs.WellFormed.{are_hints, turned_then, is_aligned, is_balanced, part_formed, pages_formed, are_bound, field_formed, breach, breaches}
use Rattle.wast_meaning.proofs.Settled.{left, right, back, two}
use Rattle.wast_conversions.proofs.Empty as empty
use Rattle.wast_resolve_laws.proofs.Changes.{part_changed, parts_so}
use Rattle.wast_resolve_laws.proofs.Taking.{both, all_taking}
use Rattle.wast_resolve_laws.proofs.Expanded.{taking_all}

-- WHERE NO FIELD IS IN BREACH
formed_if : {P : Type 0} (b : Bool) (p : P) → (if b then [] else p ∷ []) ≡ [] → b ≡ true
formed_if true p h = refl
formed_if false p h = cc

module _ {N P : Type 0} where
  abbrev pub parts_formed : Field N P → Bool
  parts_formed f = list_all part_formed (parts f)

module _ {N P : Type 0} (eq : N → N → Bool) (is_made : N → Bool) (s : Scope N P) where
  abbrev pub told : Bool → List (Field N P) → List P
  told started fs = walked (breach eq is_made s) (λ b f. b || is_start f) started fs

  pub told_first : (started : Bool) (f : Field N P) (fs : List (Field N P)) → told started (f ∷ fs) ≡ [] → field_formed eq is_made s started f ≡ true
  told_first started f fs h = formed_if (field_formed eq is_made s started f) (field_place f) (empty.front (breach eq is_made s started f) (told (started || is_start f) fs) h)

  pub told_rest : (started : Bool) (f : Field N P) (fs : List (Field N P)) → told started (f ∷ fs) ≡ [] → told (started || is_start f) fs ≡ []
  told_rest started f fs h = empty.back (breach eq is_made s started f) (told (started || is_start f) fs) h

  abbrev unbreached : Bool → Field N P → Bool
  unbreached started f = parts_formed f && pages_formed f && not (started && is_start f)

  own_formed : (started : Bool) (f : Field N P) → field_formed eq is_made s started f ≡ true → unbreached started f ≡ true
  own_formed started f h = left (unbreached started f) (are_bound eq is_made (field_demands eq s f)) h

  all_formed : (started : Bool) (fs : List (Field N P)) → told started fs ≡ [] → list_all parts_formed fs ≡ true
  all_formed started [] h = refl
  all_formed started (f ∷ fs) h =
      both_true
      (left (parts_formed f) (pages_formed f) (left (parts_formed f && pages_formed f) (not (started && is_start f)) (own_formed started f (told_first started f fs h))))
      (all_formed (started || is_start f) fs (told_rest started f fs h))

  -- a start behind another
  pub not_again : (f : Field N P) → field_formed eq is_made s true f ≡ true → not (is_start f) ≡ true
  not_again f h = right (parts_formed f && pages_formed f) (not (true && is_start f)) (own_formed true f h)

-- WRITTEN OUT
module _ {N P : Type 0} where
  said_formed : (ms : List (Mention N P)) → list_all part_formed (says ms) ≡ true
  said_formed [] = refl
  said_formed (m ∷ ms) = said_formed ms

  abbrev DefinedParts : Defined N P → Type 0
  DefinedParts d = list_all part_formed (defined_parts d) ≡ true

  of_field : (p : P) (id : Option (Named N P)) (given : Option (List ℕ)) (d : Defined N P) → DefinedParts d → parts_formed (field_of p id given d) ≡ true
  of_field p id given (Imported from name t) a = a
  of_field p id given (Func f) a = a
  of_field p id given (Table t init) a = a
  of_field p id given (TableOf wide t es) a = both part_formed (says (ref_mentions t)) [] (said_formed (ref_mentions t)) refl
  of_field p id given (Memory t) a = refl
  of_field p id given (MemoryOf wide page vs) a = refl
  of_field p id given (Global t init) a = a
  of_field p id given (Tag u) a = a

  of_exports : (p : P) (kind : ExportKind) (id : Named N P) (es : List (List ℕ)) → list_all parts_formed (map (export_of p kind id) es) ≡ true
  of_exports p kind id [] = refl
  of_exports p kind id (e ∷ es) = of_exports p kind id es

  of_segment : (p : P) (id : Named N P) (d : Defined N P) → DefinedParts d → list_all parts_formed (segment_of p id d) ≡ true
  of_segment p id (Imported from name t) a = refl
  of_segment p id (Func f) a = refl
  of_segment p id (Table t init) a = refl
  of_segment p id (TableOf false t es) a = both_true (back part_formed (says (ref_mentions t)) (elements_parts es) a) refl
  of_segment p id (TableOf true t es) a = both_true (back part_formed (says (ref_mentions t)) (elements_parts es) a) refl
  of_segment p id (Memory t) a = refl
  of_segment p id (MemoryOf false page vs) a = refl
  of_segment p id (MemoryOf true page vs) a = refl
  of_segment p id (Global t init) a = refl
  of_segment p id (Tag u) a = refl

  of_definition : (d : Definition N P) (id : Option (Named N P)) (own : Named N P) → DefinedParts d.defined →
      list_all parts_formed (field_of d.place id d.given d.defined ∷ (map (export_of d.place (kind_of d.defined) own) d.exports ++ segment_of d.place own d.defined)) ≡ true
  of_definition d id own a =
      both_true (of_field d.place id d.given d.defined a)
      (both parts_formed (map (export_of d.place (kind_of d.defined) own) d.exports) (segment_of d.place own d.defined) (of_exports d.place (kind_of d.defined) own d.exports) (of_segment d.place own d.defined a))

  of_out : (n : N) (f : Field N P) → parts_formed f ≡ true → list_all parts_formed (field_out n f) ≡ true
  of_out n (Define d) a = of_definition d _ (name_or n d) a
  of_out n (TypeField t) a = both_true a refl
  of_out n (RecField r) a = both_true a refl
  of_out n (ImportField i) a = both_true a refl
  of_out n (ExportField e) a = refl
  of_out n (StartField s) a = refl
  of_out n (ElemField e) a = both_true a refl
  of_out n (DataField d) a = both_true a refl
  of_out n (CustomField x) a = refl

  written_formed : (naming : ℕ → N) (k : ℕ) (fs : List (Field N P)) → list_all parts_formed fs ≡ true → list_all parts_formed (written_from naming k fs) ≡ true
  written_formed naming k [] a = refl
  written_formed naming k (f ∷ fs) a =
      both parts_formed (field_out (naming k) f) (written_from naming (suc k) fs) (of_out (naming k) f (left (parts_formed f) (list_all parts_formed fs) a)) (written_formed naming (suc k) fs (right (parts_formed f) (list_all parts_formed fs) a))

-- WITH OTHER INDICES
turn_kept : (t : Turn) (f g : ℕ → Bool) → ((n : ℕ) → f n ≡ g n) → (n : ℕ) → turned_then t f n ≡ turned_then t g n
turn_kept Opens f g same n = same (n + 1)
turn_kept Closes f g same zero = refl
turn_kept Closes f g same (suc n) = same n
turn_kept Stays f g same n = same n

module _ {N P : Type 0} where
  abbrev aligned : Instruction N P → Bool
  aligned i = is_aligned i.operands

  operands_aligned : (c : Change N P) (o : OperandSyntax) (x : Operands N P) → is_aligned (operands_changed c o x) ≡ is_aligned x
  operands_aligned c o (instr.Memory m) = refl
  operands_aligned c o (instr.MemoryLane m n) = refl
  operands_aligned c o _ = refl

  module _ (change : List (Instruction N P) → Instruction N P → Change N P) where
    aligned_kept : (before is : List (Instruction N P)) → list_all aligned (instrs_changed change before is) ≡ list_all aligned is
    aligned_kept before [] = refl
    aligned_kept before (i ∷ is) = two (λ a b. a && b) (operands_aligned (change before i) (syntax_of i.head) i.operands) (aligned_kept (i ∷ before) is)

    length_kept : (before is : List (Instruction N P)) → length (instrs_changed change before is) ≡ length is
    length_kept before [] = refl
    length_kept before (i ∷ is) = ap suc (length_kept (i ∷ before) is)

    balanced_kept : (before is : List (Instruction N P)) (n : ℕ) → is_balanced (instrs_changed change before is) n ≡ is_balanced is n
    balanced_kept before [] n = refl
    balanced_kept before (i ∷ is) n = turn_kept (turn_of_head i.head) (is_balanced (instrs_changed change (i ∷ before) is)) (is_balanced is) (balanced_kept (i ∷ before) is) n

    formed_kept : (is : List (Instruction N P)) (hints : List Hint) →
        (list_all aligned (instrs_changed change [] is) && are_hints (length (instrs_changed change [] is)) hints) ≡ (list_all aligned is && are_hints (length is) hints)
    formed_kept is hints = two (λ a len. a && are_hints len hints) (aligned_kept [] is) (length_kept [] is)

  part_kept : (cs : Changes N P) (x : Part N P) → part_formed (part_changed cs x) ≡ part_formed x
  part_kept cs (Says m) = refl
  part_kept cs (Constant e) = two (λ a b. a && b) (formed_kept cs.in_constant e.instrs e.hints) (balanced_kept cs.in_constant [] e.instrs 0)
  part_kept cs (Body f) = formed_kept (cs.in_function f) f.body.instrs f.body.hints

  parts_kept : (cs : Changes N P) (xs : List (Part N P)) → list_all part_formed (map (part_changed cs) xs) ≡ list_all part_formed xs
  parts_kept cs [] = refl
  parts_kept cs (x ∷ xs) = two (λ a b. a && b) (part_kept cs x) (parts_kept cs xs)

  field_kept : (cs : Changes N P) (f : Field N P) → parts_formed (field_changed cs f) ≡ parts_formed f
  field_kept cs f = ap (list_all part_formed) (parts_so cs f) ∙ parts_kept cs (parts f)

  changed_formed : (h : Field N P → Field N P) → ((f : Field N P) → parts_formed (h f) ≡ parts_formed f) → (fs : List (Field N P)) → list_all parts_formed (map h fs) ≡ list_all parts_formed fs
  changed_formed h same [] = refl
  changed_formed h same (f ∷ fs) = two (λ a b. a && b) (same f) (changed_formed h same fs)

  implied_formed : (us : List (P × Sig N P)) → list_all parts_formed (map implied_field us) ≡ true
  implied_formed [] = refl
  implied_formed (u ∷ us) = both_true (said_formed (sig_mentions u.1)) (implied_formed us)

-- RESOLVED FIELDS
module _ {N P : Type 0} (eq : N → N → Bool) (is_made : N → Bool) (naming : ℕ → N) (fs : List (Field N P)) (h : breaches eq is_made fs ≡ []) where
  abbrev outlined : List (Field N P)
  outlined = written_out naming fs

  outlined_formed : list_all parts_formed outlined ≡ true
  outlined_formed = written_formed naming 0 fs (all_formed eq is_made (scope_of eq fs) false fs h)

  taken_formed : list_all parts_formed (taking_all (type_taken eq outlined) outlined) ≡ true
  taken_formed = changed_formed (λ f. with_types (type_taken eq outlined) (field_place f) f) (λ f. field_kept (all_taking (type_taken eq outlined) (field_place f)) f) outlined ∙ outlined_formed

  expanded_formed : list_all parts_formed (expanded eq outlined) ≡ true
  expanded_formed = both parts_formed (taking_all (type_taken eq outlined) outlined) (map implied_field (implied eq outlined)) taken_formed (implied_formed (implied eq outlined))

  pub resolved_formed : list_all parts_formed (resolved eq naming fs) ≡ true
  resolved_formed =
      let typed = expanded eq outlined in
      changed_formed (field_changed (numberings eq (scope_of eq typed))) (field_kept (numberings eq (scope_of eq typed))) typed ∙ expanded_formed
