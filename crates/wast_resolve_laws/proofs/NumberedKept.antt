-- Fields whose indices are numbers keep to all demands, where the fields do and their uses have their types.
use Rattle.std.proofs.Common.{◌≡◌, ℕ, Bool, true, List, [], ◌∷◌, ◌++◌, map, length, Option, Some, None, is_some, refl, sym, ◌∙◌, ap}
use Rattle.std.specs.Prelude.{◌&&◌, ◌+◌, nat_eq, filter, slice_get, unwrap_or, option_map, option_and_then}
use Rattle.std.specs.List.{flat_map, list_all}
use Rattle.std.specs.Cmp.Lexicographic.{pointwise}
use Rattle.std.proofs.Math.Path.{fun_ext}
use Rattle.std.proofs.lemmas.Bool.{false≢true}
use Rattle.std.proofs.lemmas.List.{map-append, map-id, append-nil, length-map}
use Rattle.std.proofs.lemmas.Option.{slice_get-map}
use Rattle.wasm_encoder_base.specs.Table.{Space, Labels, Locals, Functions, Types, Tables, Memories, Globals, Tags, Datas, Elems, Fields}
use Rattle.wast_parser.specs.Identifiers.{Named, Reference, ByNumber, ByName}
use Rattle.wast_names.specs.Walk.{walked, first_unmet}
use Rattle.wast_names.specs.Demand.{is_met}
use Rattle.wast_names.specs.Space as names
use Rattle.wast_names.specs.Space.{number_of}
use Rattle.wast_value_types.specs.ValueTree.{HeapType, Abstract, Concrete, Exact, ValType, Number, Ref}
use Rattle.wast_signatures.specs.TypeTree.{Local, Sig, TypeItem, TypeUse}
use Rattle.wast_core_instr.specs.InstructionTree.{Instruction}
use Rattle.wast_field_syntax.specs.FieldTree.{Function, Field}
use Rattle.wast_meaning.specs.Mentions.{Mention, Refers, Member, Uses, UsesInBlock, Repeats, Part, Says, Constant, Body, local_mentions, use_mentions, instr_mentions, parts}
use Rattle.wast_meaning.specs.Spaces.{Bound, same_space, space_word, items, items_in, fields_at, denotes, listed}
use Rattle.wast_meaning.specs.Implied.{no_sig, same_flag, same_option, same_heap, same_val, same_local, same_sig, written_types, implied, sig_at, type_count}
use Rattle.wast_meaning.specs.Scope.{Scope, space_count, index_space, scope_of, with_locals, scope_at, members, params_of, params_of_index, locals_of}
use Rattle.wast_meaning.specs.Demands.{nearest, order_demand, order_demands, item_demands, same_numbered, agrees, agreement, agreements, says_demands, use_demands, mention_demands, instr_demands, instrs_demands, func_demands, part_demands, field_demands, demands}
use Rattle.wast_meaning.specs.Changed.{Change, Changes, heap_changed, val_changed, local_changed, sig_changed, instr_changed, instrs_changed, func_changed, field_changed}
use Rattle.wast_meaning.specs.Numbered.{numbering, numberings, numbered}
use Rattle.wast_meaning.specs.Settled.{is_number, are_typed}
use Rattle.wast_meaning.proofs.Settled.{left, right, two, front, back}
use Rattle.wast_resolve_laws.specs.Numbers.{numbers_said}
use Rattle.wast_resolve_laws.proofs.Settles.{instr_numbers}
use Rattle.wast_resolve_laws.proofs.Changes as changes
use Rattle.wast_resolve_laws.proofs.Changes.{use_with, mention_changed, part_changed, parts_so}
use Rattle.wast_resolve_laws.proofs.Kept.{inner_sig, items_kept, order_kept, nearest_kept, written_changed, written_types_kept, SameLabels, labels_more, scope_at_kept}
use Rattle.wast_resolve_laws.proofs.Taking.{both}
use Rattle.wast_resolve_laws.proofs.Expanded.{typed_implies_none}
use Rattle.wast_resolve_laws.proofs.Unmet.{all_met, none_unmet}
use Rattle.wast_resolve_laws.proofs.Sigs.{sig_of_type, implied_sig}

-- TYPES ARE EQUAL as they were, where indices are
module _ {N P : Type 0} (c d : Change N P) (new old : Reference N P → Reference N P → Bool) (so : (i j : Reference N P) → new (c.index Types i) (d.index Types j) ≡ old i j) where
  heap_equal : (g h : HeapType N P) → same_heap new (heap_changed c g) (heap_changed d h) ≡ same_heap old g h
  heap_equal (Abstract s a) (Abstract t b) = refl
  heap_equal (Abstract s a) (Concrete j) = refl
  heap_equal (Abstract s a) (Exact j) = refl
  heap_equal (Concrete i) (Abstract t b) = refl
  heap_equal (Concrete i) (Concrete j) = so i j
  heap_equal (Concrete i) (Exact j) = refl
  heap_equal (Exact i) (Abstract t b) = refl
  heap_equal (Exact i) (Concrete j) = refl
  heap_equal (Exact i) (Exact j) = so i j

  val_equal : (s t : ValType N P) → same_val new (val_changed c s) (val_changed d t) ≡ same_val old s t
  val_equal (Number a) (Number b) = refl
  val_equal (Number a) (Ref r) = refl
  val_equal (Ref r) (Number b) = refl
  val_equal (Ref r) (Ref s) = ap (λ b. same_flag r.nullable s.nullable && b) (heap_equal r.heap_type s.heap_type)

  each_equal : {A : Type 0} (f g : A → A → Bool) (h k : A → A) → ((a b : A) → f (h a) (k b) ≡ g a b) → (xs ys : List A) → pointwise f (map h xs) (map k ys) ≡ pointwise g xs ys
  each_equal f g h k e [] [] = refl
  each_equal f g h k e [] (y ∷ ys) = refl
  each_equal f g h k e (x ∷ xs) [] = refl
  each_equal f g h k e (x ∷ xs) (y ∷ ys) = two (λ a b. a && b) (e x y) (each_equal f g h k e xs ys)

  sig_equal : (s t : Sig N P) → same_sig new (sig_changed c s) (sig_changed d t) ≡ same_sig old s t
  sig_equal s t =
      two (λ a b. a && b)
      (each_equal (same_local new) (same_local old) (local_changed c) (local_changed d) (λ a b. val_equal a.val_type b.val_type) s.params t.params)
      (each_equal (same_val new) (same_val old) (val_changed c) (val_changed d) val_equal s.results t.results)

-- AN INDEX that is known stays so, and keeps its number
module _ {N P : Type 0} where
  number_found : (o : Option ℕ) (space : names.Space N) (id : N × P) → space.look id.0 ≡ o → number_of space (names.number_or o id.1 (ByName id)) ≡ o
  number_found None space id e = e
  number_found (Some n) space id e = refl

  pub number_kept : (space : names.Space N) (i : Reference N P) → number_of space (names.resolved space i) ≡ number_of space i
  number_kept space (ByNumber n p) = refl
  number_kept space (ByName id) = number_found (space.look id.0) space id refl

  found_known : (kind : List ℕ) (other : names.Space N) (o : Option ℕ) (id : N × P) → (is_some o && true) ≡ true → list_all is_met (names.known kind other (names.number_or o id.1 (ByName id))) ≡ true
  found_known kind other None id e = elim (false≢true e) [ ]
  found_known kind other (Some n) id e = refl

  known_so : (kind : List ℕ) (space other : names.Space N) (i : Reference N P) → list_all is_met (names.known kind space i) ≡ true → list_all is_met (names.known kind other (names.resolved space i)) ≡ true
  known_so kind space other (ByNumber n p) e = refl
  known_so kind space other (ByName id) e = found_known kind other (space.look id.0) id e

  params_changed : (d : Change N P) (ps : List (Local N P)) → map (λ l. l.id) (map (local_changed d) ps) ≡ map (λ l. l.id) ps
  params_changed d [] = refl
  params_changed d (p ∷ ps) = ap (λ ids. p.id ∷ ids) (params_changed d ps)

  abbrev unnamed_params : List (Local N P) → List (Option (Named N P))
  unnamed_params ps = map (λ p. None) ps

  unnamed_changed : (d : Change N P) (ps : List (Local N P)) → unnamed_params (map (local_changed d) ps) ≡ unnamed_params ps
  unnamed_changed d [] = refl
  unnamed_changed d (p ∷ ps) = ap (λ ids. None ∷ ids) (unnamed_changed d ps)

  -- a mention without the type in which a field is looked up
  abbrev aside : Mention N P → Mention N P
  aside (Member t i) = Refers Fields i
  aside m = m

-- A SCOPE in which signatures have other indices
abbrev pub rescoped : {N P : Type 0} → Change N P → Scope N P → Scope N P
rescoped d s = record { spaces = s.spaces; fields = s.fields; sig_of = λ n. option_map (sig_changed d) (s.sig_of n); blocks = s.blocks }

module _ {N P : Type 0} (eq : N → N → Bool) (d : Change N P) where
  -- those of the indices of types in this scope
  abbrev Numbers : Scope N P → Type 0
  Numbers s = (i : Reference N P) → d.index Types i ≡ names.resolved (s.spaces Types) i

  same_number : (s : Scope N P) → Numbers s → (i j : Reference N P) → same_numbered (rescoped d s) (names.resolved (s.spaces Types) i) (d.index Types j) ≡ same_numbered s i j
  same_number s numbers i j =
      two (λ a b. same_option nat_eq a b) (number_kept (s.spaces Types) i) (ap (number_of (s.spaces Types)) (numbers j) ∙ number_kept (s.spaces Types) j)

  agrees_so : (s : Scope N P) → Numbers s → (t : Sig N P) (o : Option (Sig N P)) → agrees (rescoped d s) (sig_changed (numbering s) t) (option_map (sig_changed d) o) ≡ agrees s t o
  agrees_so s numbers t None = refl
  agrees_so s numbers t (Some other) = sig_equal (numbering s) d (same_numbered (rescoped d s)) (same_numbered s) (same_number s numbers) t other

  sig_found : (s : Scope N P) (o : Option ℕ) → option_and_then (rescoped d s).sig_of o ≡ option_map (sig_changed d) (option_and_then s.sig_of o)
  sig_found s None = refl
  sig_found s (Some n) = refl

  agreement_so : (s : Scope N P) → Numbers s → (i : Reference N P) (t : Sig N P) → is_met (agreement (rescoped d s) (names.resolved (s.spaces Types) i) (sig_changed (numbering s) t)) ≡ is_met (agreement s i t)
  agreement_so s numbers i t =
      ap (λ o. agrees (rescoped d s) (sig_changed (numbering s) t) (option_and_then (rescoped d s).sig_of o)) (number_kept (s.spaces Types) i)
      ∙ ap (λ o. agrees (rescoped d s) (sig_changed (numbering s) t) o) (sig_found s (number_of (s.spaces Types) i))
      ∙ agrees_so s numbers t (option_and_then s.sig_of (number_of (s.spaces Types) i))

  -- WHAT IS SAID
  says_so : (s : Scope N P) (m : Mention N P) → list_all is_met (says_demands eq s m) ≡ true → list_all is_met (says_demands eq (rescoped d s) (mention_changed (numbering s) m)) ≡ true
  says_so s (Refers space i) e = known_so (space_word space) (s.spaces space) (s.spaces space) i e
  says_so s (Member t i) e = known_so (space_word Fields) (members s t) (members (rescoped d s) t) i e
  says_so s (Repeats id) e = e
  says_so s (Uses u) e = refl
  says_so s (UsesInBlock u) e = refl

  all_said : (s : Scope N P) (ms : List (Mention N P)) → list_all is_met (flat_map (says_demands eq s) ms) ≡ true →
      list_all is_met (flat_map (says_demands eq (rescoped d s)) (map (mention_changed (numbering s)) ms)) ≡ true
  all_said s [] e = refl
  all_said s (m ∷ ms) e =
      both is_met (says_demands eq (rescoped d s) (mention_changed (numbering s) m)) (flat_map (says_demands eq (rescoped d s)) (map (mention_changed (numbering s)) ms))
      (says_so s m (front is_met (says_demands eq s m) (flat_map (says_demands eq s) ms) e))
      (all_said s ms (back is_met (says_demands eq s m) (flat_map (says_demands eq s) ms) e))

  -- USES
  abbrev use_numbered : Scope N P → TypeUse N P → TypeUse N P
  use_numbered s u = record { index = option_map (names.resolved (s.spaces Types)) u.index; inline = option_map (sig_changed (numbering s)) u.inline }

  agreements_so : (s : Scope N P) → Numbers s → (i : Option (Reference N P)) (o : Option (Sig N P)) → list_all is_met (agreements s (use_with i o)) ≡ true →
      list_all is_met (agreements (rescoped d s) (use_numbered s (use_with i o))) ≡ true
  agreements_so s numbers None o e = refl
  agreements_so s numbers (Some i) None e = refl
  agreements_so s numbers (Some i) (Some t) e = ap (λ b. b && true) (agreement_so s numbers i t) ∙ e

  said_of : (s : Scope N P) (u : TypeUse N P) → use_mentions (use_numbered s u) ≡ map (mention_changed (numbering s)) (use_mentions u)
  said_of s u = sym (map-id (use_mentions (use_numbered s u))) ∙ changes.use_so (numbering s) (λ m. m) u

  use_so : (s : Scope N P) → Numbers s → (u : TypeUse N P) → list_all is_met (use_demands eq s u) ≡ true → list_all is_met (use_demands eq (rescoped d s) (use_numbered s u)) ≡ true
  use_so s numbers u e =
      both is_met (flat_map (says_demands eq (rescoped d s)) (use_mentions (use_numbered s u))) (agreements (rescoped d s) (use_numbered s u))
      (ap (λ ms. list_all is_met (flat_map (says_demands eq (rescoped d s)) ms)) (said_of s u)
      ∙ all_said s (use_mentions u) (front is_met (flat_map (says_demands eq s) (use_mentions u)) (agreements s u) e))
      (agreements_so s numbers u.index u.inline (back is_met (flat_map (says_demands eq s) (use_mentions u)) (agreements s u) e))

  -- MENTIONS
  mention_so : (s : Scope N P) → Numbers s → (m : Mention N P) → list_all is_met (mention_demands eq s m) ≡ true → list_all is_met (mention_demands eq (rescoped d s) (mention_changed (numbering s) m)) ≡ true
  mention_so s numbers (Refers space i) e = says_so s (Refers space i) e
  mention_so s numbers (Member t i) e = says_so s (Member t i) e
  mention_so s numbers (Repeats id) e = e
  mention_so s numbers (Uses u) e = use_so s numbers u e
  mention_so s numbers (UsesInBlock u) e = use_so s numbers u e

  mentions_so : (s : Scope N P) → Numbers s → (ms : List (Mention N P)) → list_all is_met (flat_map (mention_demands eq s) ms) ≡ true →
      list_all is_met (flat_map (mention_demands eq (rescoped d s)) (map (mention_changed (numbering s)) ms)) ≡ true
  mentions_so s numbers [] e = refl
  mentions_so s numbers (m ∷ ms) e =
      both is_met (mention_demands eq (rescoped d s) (mention_changed (numbering s) m)) (flat_map (mention_demands eq (rescoped d s)) (map (mention_changed (numbering s)) ms))
      (mention_so s numbers m (front is_met (mention_demands eq s m) (flat_map (mention_demands eq s) ms) e))
      (mentions_so s numbers ms (back is_met (mention_demands eq s m) (flat_map (mention_demands eq s) ms) e))

  -- where the type in which a field is looked up is left out
  aside_so : (s : Scope N P) → Numbers s → (m : Mention N P) → list_all is_met (mention_demands eq s m) ≡ true → list_all is_met (mention_demands eq (rescoped d s) (aside (mention_changed (numbering s) m))) ≡ true
  aside_so s numbers (Refers space i) e = says_so s (Refers space i) e
  aside_so s numbers (Member t i) e = known_so (space_word Fields) (members s t) (s.spaces Fields) i e
  aside_so s numbers (Repeats id) e = e
  aside_so s numbers (Uses u) e = use_so s numbers u e
  aside_so s numbers (UsesInBlock u) e = use_so s numbers u e

  all_aside : (s : Scope N P) → Numbers s → (ms : List (Mention N P)) → list_all is_met (flat_map (mention_demands eq s) ms) ≡ true →
      list_all is_met (flat_map (mention_demands eq (rescoped d s)) (map (λ m. aside (mention_changed (numbering s) m)) ms)) ≡ true
  all_aside s numbers [] e = refl
  all_aside s numbers (m ∷ ms) e =
      both is_met (mention_demands eq (rescoped d s) (aside (mention_changed (numbering s) m))) (flat_map (mention_demands eq (rescoped d s)) (map (λ x. aside (mention_changed (numbering s) x)) ms))
      (aside_so s numbers m (front is_met (mention_demands eq s m) (flat_map (mention_demands eq s) ms) e))
      (all_aside s numbers ms (back is_met (mention_demands eq s m) (flat_map (mention_demands eq s) ms) e))

  -- which makes no difference where indices are numbers
  member_met : (s : Scope N P) (t i : Reference N P) → is_number i ≡ true → list_all is_met (says_demands eq s (Member t i)) ≡ true
  member_met s t (ByNumber n p) e = refl
  member_met s t (ByName id) e = elim (false≢true e) [ ]

  number_met : (s : Scope N P) (m : Mention N P) → numbers_said m ≡ true → list_all is_met (mention_demands eq s (aside m)) ≡ true → list_all is_met (mention_demands eq s m) ≡ true
  number_met s (Refers space i) n e = e
  number_met s (Member x i) n e = member_met s x i n
  number_met s (Repeats id) n e = e
  number_met s (Uses u) n e = e
  number_met s (UsesInBlock u) n e = e

  numbers_met : (s : Scope N P) (ms : List (Mention N P)) → list_all numbers_said ms ≡ true → list_all is_met (flat_map (mention_demands eq s) (map aside ms)) ≡ true → list_all is_met (flat_map (mention_demands eq s) ms) ≡ true
  numbers_met s [] n e = refl
  numbers_met s (m ∷ ms) n e =
      both is_met (mention_demands eq s m) (flat_map (mention_demands eq s) ms)
      (number_met s m (left (numbers_said m) (list_all numbers_said ms) n) (front is_met (mention_demands eq s (aside m)) (flat_map (mention_demands eq s) (map aside ms)) e))
      (numbers_met s ms (right (numbers_said m) (list_all numbers_said ms) n) (back is_met (mention_demands eq s (aside m)) (flat_map (mention_demands eq s) (map aside ms)) e))

  -- INSTRUCTIONS
  instr_here : (s : Scope N P) → Numbers s → (i : Instruction N P) → list_all is_met (flat_map (mention_demands eq s) (instr_mentions i)) ≡ true →
      list_all is_met (flat_map (mention_demands eq (rescoped d s)) (instr_mentions (instr_changed (numbering s) i))) ≡ true
  instr_here s numbers i e =
      numbers_met (rescoped d s) (instr_mentions (instr_changed (numbering s) i)) (instr_numbers eq s i e)
      (ap (λ ms. list_all is_met (flat_map (mention_demands eq (rescoped d s)) ms)) (changes.instr_so (numbering s) aside (λ space x j. refl) i) ∙ all_aside s numbers (instr_mentions i) e)

  instrs_so : (s : Scope N P) → Numbers s → (new old : List (Instruction N P)) → SameLabels new old → (is : List (Instruction N P)) →
      list_all is_met (instrs_demands eq s old is) ≡ true →
      list_all is_met (instrs_demands eq (rescoped d s) new (instrs_changed (λ before i. numbering (scope_at eq s before i)) old is)) ≡ true
  instrs_so s numbers new old same [] e = refl
  instrs_so s numbers new old same (i ∷ is) e =
      let c = numbering (scope_at eq s old i) in
      both is_met (instr_demands eq (rescoped d s) new (instr_changed c i)) (instrs_demands eq (rescoped d s) (instr_changed c i ∷ new) (instrs_changed (λ before j. numbering (scope_at eq s before j)) (i ∷ old) is))
      (ap (λ x. list_all is_met (flat_map (mention_demands eq x) (instr_mentions (instr_changed c i)))) (scope_at_kept eq (rescoped d s) c i new old same)
      ∙ instr_here (scope_at eq s old i) numbers i (front is_met (instr_demands eq s old i) (instrs_demands eq s (i ∷ old) is) e))
      (instrs_so s numbers (instr_changed c i ∷ new) (i ∷ old) (labels_more c i new old same) is (back is_met (instr_demands eq s old i) (instrs_demands eq s (i ∷ old) is) e))

  -- FUNCTIONS
  params_found : (o : Option (Sig N P)) → unnamed_params (unwrap_or (option_map (sig_changed d) o) no_sig).params ≡ unnamed_params (unwrap_or o no_sig).params
  params_found None = refl
  params_found (Some t) = unnamed_changed d t.params

  index_params : (s : Scope N P) (i : Option (Reference N P)) → params_of_index (rescoped d s) (option_map (names.resolved (s.spaces Types)) i) ≡ params_of_index s i
  index_params s None = refl
  index_params s (Some i) =
      ap (λ o. unnamed_params (unwrap_or (option_and_then (rescoped d s).sig_of o) no_sig).params) (number_kept (s.spaces Types) i)
      ∙ ap (λ o. unnamed_params (unwrap_or o no_sig).params) (sig_found s (number_of (s.spaces Types) i))
      ∙ params_found (option_and_then s.sig_of (number_of (s.spaces Types) i))

  use_params : (s : Scope N P) (i : Option (Reference N P)) (o : Option (Sig N P)) → params_of (rescoped d s) (use_numbered s (use_with i o)) ≡ params_of s (use_with i o)
  use_params s i (Some t) = params_changed (numbering s) t.params
  use_params s i None = index_params s i

  locals_so : (s : Scope N P) (f : Function N P) → locals_of (rescoped d s) (func_changed (numberings eq s) f) ≡ locals_of s f
  locals_so s f = two (λ a b. a ++ b) (use_params s f.type_use.index f.type_use.inline) (params_changed (numbering s) f.locals)

  local_said : (s : Scope N P) (ls : List (Local N P)) → local_mentions (map (local_changed (numbering s)) ls) ≡ map (mention_changed (numbering s)) (local_mentions ls)
  local_said s ls = sym (map-id (local_mentions (map (local_changed (numbering s)) ls))) ∙ changes.locals_so (numbering s) (λ m. m) ls

  func_so : (s : Scope N P) → Numbers s → (f : Function N P) → list_all is_met (func_demands eq s f) ≡ true → list_all is_met (func_demands eq (rescoped d s) (func_changed (numberings eq s) f)) ≡ true
  func_so s numbers f e =
      let new = func_changed (numberings eq s) f in
      let use_part = use_demands eq s f.type_use in
      let local_part = flat_map (mention_demands eq s) (local_mentions f.locals) in
      let name_part = names.distinct eq (space_word Locals) (locals_of s f) in
      let body_part = instrs_demands eq (with_locals eq s (locals_of s f)) [] f.body.instrs in
      let before_body = front is_met (use_part ++ local_part ++ name_part) body_part e in
      let before_names = front is_met (use_part ++ local_part) name_part before_body in
      let new_use = use_demands eq (rescoped d s) new.type_use in
      let new_local = flat_map (mention_demands eq (rescoped d s)) (local_mentions new.locals) in
      let new_body = instrs_demands eq (with_locals eq (rescoped d s) (locals_of s f)) [] new.body.instrs in
      ap (λ ids. list_all is_met (new_use ++ new_local ++ names.distinct eq (space_word Locals) ids ++ instrs_demands eq (with_locals eq (rescoped d s) ids) [] new.body.instrs)) (locals_so s f)
      ∙ both is_met (new_use ++ new_local ++ name_part) new_body
      (both is_met (new_use ++ new_local) name_part
      (both is_met new_use new_local (use_so s numbers f.type_use (front is_met use_part local_part before_names))
      (ap (λ ms. list_all is_met (flat_map (mention_demands eq (rescoped d s)) ms)) (local_said s f.locals) ∙ mentions_so s numbers (local_mentions f.locals) (back is_met use_part local_part before_names)))
      (back is_met (use_part ++ local_part) name_part before_body))
      (instrs_so (with_locals eq s (locals_of s f)) numbers [] [] refl f.body.instrs (back is_met (use_part ++ local_part ++ name_part) body_part e))

  -- FIELDS
  part_so : (s : Scope N P) → Numbers s → (x : Part N P) → list_all is_met (part_demands eq s x) ≡ true → list_all is_met (part_demands eq (rescoped d s) (part_changed (numberings eq s) x)) ≡ true
  part_so s numbers (Says m) e = mention_so s numbers m e
  part_so s numbers (Constant x) e = instrs_so s numbers [] [] refl x.instrs e
  part_so s numbers (Body f) e = func_so s numbers f e

  all_parts : (s : Scope N P) → Numbers s → (xs : List (Part N P)) → list_all is_met (flat_map (part_demands eq s) xs) ≡ true →
      list_all is_met (flat_map (part_demands eq (rescoped d s)) (map (part_changed (numberings eq s)) xs)) ≡ true
  all_parts s numbers [] e = refl
  all_parts s numbers (x ∷ xs) e =
      both is_met (part_demands eq (rescoped d s) (part_changed (numberings eq s) x)) (flat_map (part_demands eq (rescoped d s)) (map (part_changed (numberings eq s)) xs))
      (part_so s numbers x (front is_met (part_demands eq s x) (flat_map (part_demands eq s) xs) e))
      (all_parts s numbers xs (back is_met (part_demands eq s x) (flat_map (part_demands eq s) xs) e))

  field_so : (s : Scope N P) → Numbers s → (f : Field N P) → list_all is_met (field_demands eq s f) ≡ true → list_all is_met (field_demands eq (rescoped d s) (field_changed (numberings eq s) f)) ≡ true
  field_so s numbers f e = ap (λ xs. list_all is_met (flat_map (part_demands eq (rescoped d s)) xs)) (parts_so (numberings eq s) f) ∙ all_parts s numbers (parts f) e

  fields_so : (s : Scope N P) → Numbers s → (fs : List (Field N P)) → list_all is_met (flat_map (field_demands eq s) fs) ≡ true →
      list_all is_met (flat_map (field_demands eq (rescoped d s)) (map (field_changed (numberings eq s)) fs)) ≡ true
  fields_so s numbers [] e = refl
  fields_so s numbers (f ∷ fs) e =
      both is_met (field_demands eq (rescoped d s) (field_changed (numberings eq s) f)) (flat_map (field_demands eq (rescoped d s)) (map (field_changed (numberings eq s)) fs))
      (field_so s numbers f (front is_met (field_demands eq s f) (flat_map (field_demands eq s) fs) e))
      (fields_so s numbers fs (back is_met (field_demands eq s f) (flat_map (field_demands eq s) fs) e))

-- ITEMS, ORDER AND TYPES, whatever the change
module _ {N P : Type 0} (cs : Changes N P) where
  all_items : (fs : List (Field N P)) → flat_map items (map (field_changed cs) fs) ≡ flat_map items fs
  all_items [] = refl
  all_items (f ∷ fs) = two (λ a b. a ++ b) (items_kept cs f) (all_items fs)

  all_order : (before : Option Space) (fs : List (Field N P)) → walked order_demand nearest before (map (field_changed cs) fs) ≡ walked order_demand nearest before fs
  all_order before [] = refl
  all_order before (f ∷ fs) =
      two (λ a b. a ++ b) (order_kept cs before f) (ap (λ b. walked order_demand nearest b (map (field_changed cs) fs)) (nearest_kept cs before f) ∙ all_order (nearest before f) fs)

  all_types : (fs : List (Field N P)) → flat_map written_types (map (field_changed cs) fs) ≡ map (written_changed cs) (flat_map written_types fs)
  all_types [] = refl
  all_types (f ∷ fs) = two (λ a b. a ++ b) (written_types_kept cs f) (all_types fs) ∙ sym (map-append (written_changed cs) (written_types f) (flat_map written_types fs))

  abbrev sig_after : Option (Sig N P) → Option (Sig N P)
  sig_after o = option_map (sig_changed cs.outside) o

  sigs_of : (ts : List (TypeItem N P × Bool)) → map sig_of_type (map (written_changed cs) ts) ≡ map sig_after (map sig_of_type ts)
  sigs_of [] = refl
  sigs_of (t ∷ ts) = two (λ a b. a ∷ b) (inner_sig cs.outside t.0.definition.comp.inner) (sigs_of ts)

  joined_option : (o : Option (Option (Sig N P))) → option_and_then (λ s. s) (option_map sig_after o) ≡ sig_after (option_and_then (λ s. s) o)
  joined_option None = refl
  joined_option (Some x) = refl

module _ {N P : Type 0} (eq : N → N → Bool) (fs : List (Field N P)) (met : first_unmet is_met (demands eq fs) ≡ None) (typed : are_typed fs ≡ true) (again : implied eq (numbered eq fs) ≡ []) where
  abbrev s : Scope N P
  s = scope_of eq fs

  abbrev cs : Changes N P
  cs = numberings eq s

  abbrev sigs : List (Field N P) → List (Option (Sig N P))
  sigs gs = map sig_of_type (flat_map written_types gs)

  sigs_numbered : sigs (numbered eq fs) ≡ map (sig_after cs) (sigs fs)
  sigs_numbered = ap (λ ts. map sig_of_type ts) (all_types cs fs) ∙ sigs_of cs (flat_map written_types fs)

  abbrev sig_in : List (Option (Sig N P)) → ℕ → Option (Sig N P)
  sig_in l n = option_and_then (λ x. x) (slice_get l n)

  without : (gs : List (Field N P)) → implied eq gs ≡ [] → (n : ℕ) → sig_at eq gs n ≡ sig_in (sigs gs) n
  without gs none n = ap (λ us. sig_in (sigs gs ++ map implied_sig us) n) none ∙ ap (λ l. sig_in l n) (append-nil (sigs gs))

  sig_numbered : (n : ℕ) → sig_at eq (numbered eq fs) n ≡ sig_after cs (sig_at eq fs n)
  sig_numbered n =
      without (numbered eq fs) again n
      ∙ ap (λ l. sig_in l n) sigs_numbered
      ∙ ap (option_and_then (λ x. x)) (slice_get-map (sig_after cs) (sigs fs) n)
      ∙ joined_option cs (slice_get (sigs fs) n)
      ∙ ap (sig_after cs) (sym (without fs (typed_implies_none eq fs typed) n))

  count_numbered : type_count eq (numbered eq fs) ≡ type_count eq fs
  count_numbered =
      two (λ a b. a + b) (ap (λ l. length l) (all_types cs fs) ∙ length-map (flat_map written_types fs) (written_changed cs))
      (ap (λ l. length l) (again ∙ sym (typed_implies_none eq fs typed)))

  items_numbered : flat_map items (numbered eq fs) ≡ flat_map items fs
  items_numbered = all_items cs fs

  own_items : (space : Space) → items_in space (numbered eq fs) ≡ items_in space fs
  own_items space = ap (λ l. filter (λ (b : Bound N P). same_space space b.space) l) items_numbered

  space_numbered : (space : Space) → space_count eq (numbered eq fs) space ≡ space_count eq fs space
  space_numbered Types = count_numbered
  space_numbered Labels = ap (λ l. length l) (own_items Labels)
  space_numbered Locals = ap (λ l. length l) (own_items Locals)
  space_numbered Functions = ap (λ l. length l) (own_items Functions)
  space_numbered Tables = ap (λ l. length l) (own_items Tables)
  space_numbered Memories = ap (λ l. length l) (own_items Memories)
  space_numbered Globals = ap (λ l. length l) (own_items Globals)
  space_numbered Tags = ap (λ l. length l) (own_items Tags)
  space_numbered Datas = ap (λ l. length l) (own_items Datas)
  space_numbered Elems = ap (λ l. length l) (own_items Elems)
  space_numbered Fields = ap (λ l. length l) (own_items Fields)

  abbrev meaning : Space → N → List (Bound N P) → Option ℕ
  meaning space n bs = names.denoted eq (space_word space) n (map names.name_in (map (λ b. b.id) bs))

  look_numbered : (space : Space) (n : N) → denotes eq (numbered eq fs) space n ≡ denotes eq fs space n
  look_numbered Labels n = refl
  look_numbered Locals n = refl
  look_numbered Fields n = refl
  look_numbered Types n = ap (meaning Types n) (own_items Types)
  look_numbered Functions n = ap (meaning Functions n) (own_items Functions)
  look_numbered Tables n = ap (meaning Tables n) (own_items Tables)
  look_numbered Memories n = ap (meaning Memories n) (own_items Memories)
  look_numbered Globals n = ap (meaning Globals n) (own_items Globals)
  look_numbered Tags n = ap (meaning Tags n) (own_items Tags)
  look_numbered Datas n = ap (meaning Datas n) (own_items Datas)
  look_numbered Elems n = ap (meaning Elems n) (own_items Elems)

  -- the scope is the same, but for the indices in signatures
  pub scope_numbered : scope_of eq (numbered eq fs) ≡ rescoped (numbering s) s
  scope_numbered =
      let spaces : index_space eq (numbered eq fs) ≡ index_space eq fs = fun_ext (λ x. two (λ c l. record { count = c; look = l }) (space_numbered x) (fun_ext (λ n. look_numbered x n))) in
      let fields : (λ t. listed eq (fields_at (numbered eq fs) t)) ≡ (λ t. listed eq (fields_at fs t)) = fun_ext (λ t. ap (λ bs. listed eq (elim (slice_get bs t) [ Some b ↦ b.fields | None ↦ [] ])) (own_items Types)) in
      let sig_of : sig_at eq (numbered eq fs) ≡ (λ n. option_map (sig_changed (numbering s)) (sig_at eq fs n)) = fun_ext (λ n. sig_numbered n) in
      ap (λ v. record { spaces = v; fields = λ t. listed eq (fields_at (numbered eq fs) t); sig_of = sig_at eq (numbered eq fs); blocks = [] }) spaces
      ∙ ap (λ v. record { spaces = index_space eq fs; fields = v; sig_of = sig_at eq (numbered eq fs); blocks = [] }) fields
      ∙ ap (λ v. record { spaces = index_space eq fs; fields = λ t. listed eq (fields_at fs t); sig_of = v; blocks = [] }) sig_of

  -- so all demands are met
  pub numbered_met : first_unmet is_met (demands eq (numbered eq fs)) ≡ None
  numbered_met =
      let firsts = order_demands fs ++ item_demands eq (flat_map items fs) in
      let own = flat_map (field_demands eq s) fs in
      let all : list_all is_met (demands eq fs) ≡ true = all_met (demands eq fs) met in
      none_unmet (demands eq (numbered eq fs))
      (two (λ a b. list_all is_met (a ++ item_demands eq b ++ flat_map (field_demands eq (scope_of eq (numbered eq fs))) (numbered eq fs))) (all_order cs None fs) items_numbered
      ∙ ap (λ x. list_all is_met (firsts ++ flat_map (field_demands eq x) (numbered eq fs))) scope_numbered
      ∙ both is_met firsts (flat_map (field_demands eq (rescoped (numbering s) s)) (numbered eq fs)) (front is_met firsts own all)
      (fields_so eq (numbering s) s (λ i. refl) fs (back is_met firsts own all)))
