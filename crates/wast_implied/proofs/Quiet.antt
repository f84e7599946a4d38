-- What mentions of names use: those that are no uses use nothing.
use Rattle.std.proofs.Common.{◌≡◌, Bool, true, false, List, [], ◌∷◌, ◌++◌, Option, map, refl, ◌∙◌, ap}
use Rattle.std.specs.Prelude.{option_to_list}
use Rattle.std.specs.List.{flat_map}
use Rattle.std.proofs.lemmas.List.{append-nil, append_assoc}
use Rattle.std.proofs.lemmas.List.Concat.{flat_map-append}
use Rattle.wasm_encoder_base.specs.Table.{OperandSyntax, Space, Fields, Labels, Types}
use Rattle.wast_parser.specs.Identifiers.{Reference}
use Rattle.wast_value_types.specs.ValueTree.{HeapType, Abstract, Concrete, Exact, ValType, Number, Ref, StorageType, Packed, Value}
use Rattle.wast_signatures.specs.TypeTree.{Local, Sig, InnerType, FuncType, StructType, ArrayType, ContType, TypeItem}
use Rattle.wast_operands.specs.OperandTree.{MemArg, MemArgTarget, Handle, OnLabel, OnSwitch}
use Rattle.wast_operands.specs.OperandTree as operand
use Rattle.wast_typed_operands.specs.TypedTree.{Catch, CatchTag, CatchTagRef, CatchAll, CatchAllRef}
use Rattle.wast_core_instr.specs.InstructionTree.{Operands}
use Rattle.wast_core_instr.specs.InstructionTree as instr
use Rattle.wast_module_fields.specs.FieldTree.{Expr, Function}
use Rattle.wast_meaning.specs.Mentions.{Mention, Refers, Repeats, UsesInBlock, Part, Constant, Body, says, refers_if, heap_mentions, ref_mentions, val_mentions, storage_mentions, local_mentions, inner_mentions, type_mentions, second_space, second_mention, first_space, catch_mentions, handle_mentions, mem_arg_mentions, target_mention, operand_mentions, expr_mentions, part_mentions}
use Rattle.wast_meaning.specs.Implied.{sig_of_use, sig_of_mention}
use Rattle.wast_meaning.proofs.SettledFields.{said_parts}

module _ {N P : Type 0} where
  abbrev pub used : List (Mention N P) → List (Sig N P)
  used ms = flat_map sig_of_mention ms

  -- where each says nothing of uses, all say nothing
  quiet_each : {X : Type 0} (said : X → List (Mention N P)) → ((x : X) → used (said x) ≡ []) → (xs : List X) → used (flat_map said xs) ≡ []
  quiet_each said h [] = refl
  quiet_each said h (x ∷ xs) = flat_map-append sig_of_mention (said x) (flat_map said xs) ∙ ap (λ ss. ss ++ used (flat_map said xs)) (h x) ∙ quiet_each said h xs

  pub quiet_both : (ms ns : List (Mention N P)) → used ms ≡ [] → used (ms ++ ns) ≡ used ns
  quiet_both ms ns h = flat_map-append sig_of_mention ms ns ∙ ap (λ ss. ss ++ used ns) h

  quiet_map : {X : Type 0} (said : X → Mention N P) → ((x : X) → sig_of_mention (said x) ≡ []) → (xs : List X) → used (map said xs) ≡ []
  quiet_map said h [] = refl
  quiet_map said h (x ∷ xs) = ap (λ ss. ss ++ used (map said xs)) (h x) ∙ quiet_map said h xs

  pub quiet_refers : (s : Space) (is : List (Reference N P)) → used (map (Refers s) is) ≡ []
  quiet_refers s is = quiet_map (Refers s) (λ i. refl) is

  pub quiet_if : (s : Space) (i : Option (Reference N P)) → used (refers_if s i) ≡ []
  quiet_if s i = quiet_refers s (option_to_list i)

  -- TYPES
  pub quiet_heap : (h : HeapType N P) → used (heap_mentions h) ≡ []
  quiet_heap (Abstract shared w) = refl
  quiet_heap (Concrete i) = refl
  quiet_heap (Exact i) = refl

  pub quiet_val : (t : ValType N P) → used (val_mentions t) ≡ []
  quiet_val (Number t) = refl
  quiet_val (Ref r) = quiet_heap r.heap_type

  quiet_storage : (t : StorageType N P) → used (storage_mentions t) ≡ []
  quiet_storage (Packed t) = refl
  quiet_storage (Value t) = quiet_val t

  pub quiet_locals : (ls : List (Local N P)) → used (local_mentions ls) ≡ []
  quiet_locals ls = quiet_each (λ l. val_mentions l.val_type) (λ l. quiet_val l.val_type) ls

  quiet_inner : (t : InnerType N P) → used (inner_mentions t) ≡ []
  quiet_inner (FuncType s) = quiet_both (local_mentions s.params) (flat_map val_mentions s.results) (quiet_locals s.params) ∙ quiet_each val_mentions quiet_val s.results
  quiet_inner (StructType fs) = quiet_each (λ f. storage_mentions f.field_type.storage) (λ f. quiet_storage f.field_type.storage) fs
  quiet_inner (ArrayType t) = quiet_storage t.storage
  quiet_inner (ContType i) = refl

  behind_if : (i : Option (Reference N P)) (ms : List (Mention N P)) → used ms ≡ [] → used (refers_if Types i ++ ms) ≡ []
  behind_if i ms h = quiet_both (refers_if Types i) ms (quiet_if Types i) ∙ h

  pub quiet_type : (t : TypeItem N P) → used (type_mentions t) ≡ []
  quiet_type t =
      let d = t.definition in
      let comp = inner_mentions d.comp.inner in
      let three : List (Mention N P) = refers_if Types d.supertype ++ (refers_if Types d.describes ++ (refers_if Types d.descriptor ++ comp)) in
      let regrouped : type_mentions t ≡ three =
      append_assoc (refers_if Types d.supertype ++ refers_if Types d.describes) (refers_if Types d.descriptor) comp
      ∙ append_assoc (refers_if Types d.supertype) (refers_if Types d.describes) (refers_if Types d.descriptor ++ comp) in
      ap used regrouped
      ∙ behind_if d.supertype (refers_if Types d.describes ++ (refers_if Types d.descriptor ++ comp))
      (behind_if d.describes (refers_if Types d.descriptor ++ comp) (behind_if d.descriptor comp (quiet_inner d.comp.inner)))

  pub quiet_types : (ts : List (TypeItem N P)) → used (flat_map type_mentions ts) ≡ []
  quiet_types ts = quiet_each type_mentions quiet_type ts

  -- OPERANDS
  quiet_second : (s : Space) (i j : Reference N P) → sig_of_mention (second_mention s i j) ≡ []
  quiet_second Fields i j = refl
  quiet_second s i j = refl

  quiet_catch : (c : Catch N P) → used (catch_mentions c) ≡ []
  quiet_catch (CatchTag t l) = refl
  quiet_catch (CatchTagRef t l) = refl
  quiet_catch (CatchAll l) = refl
  quiet_catch (CatchAllRef l) = refl

  quiet_handle : (h : Handle N P) → used (handle_mentions h) ≡ []
  quiet_handle (OnLabel t l) = refl
  quiet_handle (OnSwitch t) = refl

  quiet_target : (t : MemArgTarget N P) → sig_of_mention (target_mention t) ≡ []
  quiet_target (operand.Memory i) = refl
  quiet_target (operand.Array i) = refl

  quiet_mem_arg : (m : MemArg N P) → used (mem_arg_mentions m) ≡ []
  quiet_mem_arg m = quiet_map target_mention quiet_target (option_to_list m.target)

  pub used_try_table : (o : OperandSyntax) (t : _) → used (operand_mentions o (instr.TryTable t)) ≡ used (UsesInBlock t.block.type_use ∷ [])
  used_try_table o t = ap (λ ss. sig_of_mention (UsesInBlock t.block.type_use) ++ ss) (quiet_each catch_mentions quiet_catch t.catches)

  abbrev pub is_quiet : Operands N P → Bool
  is_quiet (instr.Block b) = false
  is_quiet (instr.TryTable t) = false
  is_quiet (instr.Indirect c) = false
  is_quiet (instr.Ordered ordering x) = is_quiet x
  is_quiet _ = true

  pub quiet_operands : (o : OperandSyntax) (x : Operands N P) → is_quiet x ≡ true → used (operand_mentions o x) ≡ []
  quiet_operands o (instr.Block b) h = absurd (cc)
  quiet_operands o (instr.TryTable t) h = absurd (cc)
  quiet_operands o (instr.Indirect c) h = absurd (cc)
  quiet_operands o (instr.Ordered ordering x) h = quiet_operands o x h
  quiet_operands o (instr.Label id) h = quiet_map Repeats (λ i. refl) (option_to_list id)
  quiet_operands o (instr.Two i j) h = ap (λ ss. ss ++ []) (quiet_second (second_space o) i j)
  quiet_operands o (instr.LabelTable is i) h = quiet_both (map (Refers Labels) is) (Refers Labels i ∷ []) (quiet_refers _ is)
  quiet_operands o (instr.Optional i) h = quiet_if (first_space o) i
  quiet_operands o (instr.OptionalTwo p) h = quiet_each (λ ij. Refers (first_space o) ij.0 ∷ Refers (second_space o) ij.1 ∷ []) (λ ij. refl) (option_to_list p)
  quiet_operands o (instr.OptionalThen i j) h = quiet_both (refers_if (first_space o) i) (Refers (second_space o) j ∷ []) (quiet_if (first_space o) i)
  quiet_operands o (instr.Heap t) h = quiet_heap t
  quiet_operands o (instr.Ref r) h = quiet_heap r.heap_type
  quiet_operands o (instr.Cast c) h = quiet_both (ref_mentions c.source) (ref_mentions c.target) (quiet_heap c.source.heap_type) ∙ quiet_heap c.target.heap_type
  quiet_operands o (instr.Types ts) h = quiet_each (λ vs. flat_map val_mentions vs) (λ vs. quiet_each val_mentions quiet_val vs) (option_to_list ts)
  quiet_operands o (instr.Memory m) h = quiet_mem_arg m
  quiet_operands o (instr.MemoryLane m n) h = quiet_mem_arg m
  quiet_operands o (instr.Resume i hs) h = quiet_each handle_mentions quiet_handle hs
  quiet_operands o (instr.ResumeThrow i t hs) h = quiet_each handle_mentions quiet_handle hs
  quiet_operands o x h = refl

  -- PARTS
  pub said_before : (ms : List (Mention N P)) (ps : List (Part N P)) → flat_map part_mentions (says ms ++ ps) ≡ ms ++ flat_map part_mentions ps
  said_before ms ps = flat_map-append part_mentions (says ms) ps ∙ ap (λ ns. ns ++ flat_map part_mentions ps) (said_parts ms)

  pub quiet_said : (ms : List (Mention N P)) → used ms ≡ [] → used (flat_map part_mentions (says ms)) ≡ []
  quiet_said ms h = ap used (said_parts ms) ∙ h

  -- what is quiet before parts
  pub quiet_before : (ms : List (Mention N P)) (ps : List (Part N P)) → used ms ≡ [] → used (flat_map part_mentions (says ms ++ ps)) ≡ used (flat_map part_mentions ps)
  quiet_before ms ps h = ap used (said_before ms ps) ∙ quiet_both ms (flat_map part_mentions ps) h

  pub used_constant : (e : Expr N P) → used (flat_map part_mentions (Constant e ∷ [])) ≡ used (expr_mentions e)
  used_constant e = ap used (append-nil (expr_mentions e))

  pub used_body : (f : Function N P) → used (flat_map part_mentions (Body f ∷ [])) ≡ sig_of_use f.type_use ++ used (expr_mentions f.body)
  used_body f =
      ap used (append-nil (part_mentions (Body f)))
      ∙ ap (λ ss. sig_of_use f.type_use ++ ss) (quiet_both (local_mentions f.locals) (expr_mentions f.body) (quiet_locals f.locals))
