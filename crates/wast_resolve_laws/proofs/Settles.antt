-- Where all demands are met, numbering makes each index a number; where uses have their types too, it settles fields.
use Rattle.std.proofs.Common.{◌≡◌, ℕ, Bool, true, false, List, [], ◌∷◌, ◌++◌, map, Option, Some, None, is_some, refl, sym, ◌∙◌, ap}
use Rattle.std.specs.Prelude.{◌&&◌, ◌||◌, not, nat_eq, nat_le, unwrap_or, option_map, option_to_list}
use Rattle.std.specs.List.{flat_map, list_all}
use Rattle.std.specs.Cmp.Derive.{both_true}
use Rattle.std.proofs.lemmas.Bool.{false≢true}
use Rattle.std.proofs.lemmas.List.{length-map}
use Rattle.std.proofs.lemmas.List.Folds.{list_all-map}
use Rattle.wasm_encoder_base.specs.Table.{Types, Locals, Fields}
use Rattle.wast_parser.specs.Identifiers.{Reference, ByNumber, ByName}
use Rattle.wast_parser_core.proofs.WordSets.{some_map}
use Rattle.wast_names.specs.Walk.{first_unmet}
use Rattle.wast_names.specs.Demand.{is_met}
use Rattle.wast_names.specs.Space as names
use Rattle.wast_signatures.specs.TypeTree.{Sig, TypeUse}
use Rattle.wast_core_instr.specs.InstructionTree.{Instruction}
use Rattle.wast_field_syntax.specs.FieldTree.{Function, Field}
use Rattle.wast_meaning.specs.Mentions.{Mention, Refers, Member, Uses, UsesInBlock, Repeats, Part, Says, Constant, Body, refers_if, sig_mentions, local_mentions, use_mentions, instr_mentions, expr_mentions, parts, part_mentions, field_mentions}
use Rattle.wast_meaning.specs.Spaces.{space_word, items}
use Rattle.wast_meaning.specs.Implied.{no_sig, is_short}
use Rattle.wast_meaning.specs.Scope.{Scope, scope_of, with_locals, scope_at, members, locals_of}
use Rattle.wast_meaning.specs.Demands.{order_demands, item_demands, agreements, says_demands, use_demands, mention_demands, instrs_demands, func_demands, part_demands, field_demands, demands}
use Rattle.wast_meaning.specs.Changed.{Change, val_changed, local_changed, sig_changed, use_changed, instr_changed, instrs_changed, func_changed, field_changed}
use Rattle.wast_meaning.specs.Numbered.{numbering, numberings, numbered}
use Rattle.wast_meaning.specs.Settled.{is_number, has_number, says_number, is_settled, are_settled, is_typed, are_typed}
use Rattle.wast_meaning.proofs.Settled.{left, right, two, front, back}
use Rattle.wast_resolve_laws.specs.Numbers.{numbers_said, are_numbers}
use Rattle.wast_resolve_laws.proofs.Changes as changes
use Rattle.wast_resolve_laws.proofs.Changes.{Same, mention_changed, part_changed, parts_so}
use Rattle.wast_resolve_laws.proofs.Taking.{both}
use Rattle.wast_resolve_laws.proofs.Unmet.{all_met}

each_true : {A : Type 0} (q : A → Bool) → ((x : A) → q x ≡ true) → (xs : List A) → list_all q xs ≡ true
each_true q h [] = refl
each_true q h (x ∷ xs) = both_true (h x) (each_true q h xs)

-- a test of what is said by trees that are changed
seen : {N P : Type 0} (c : Change N P) (q : Mention N P → Bool) (new old : List (Mention N P)) → Same c q new old → list_all q new ≡ list_all (λ m. q (mention_changed c m)) old
seen c q new old e = sym (list_all-map (λ b. b) q new) ∙ ap (list_all (λ b. b)) e ∙ list_all-map (λ b. b) (λ m. q (mention_changed c m)) old

-- TWO TESTS OF MENTIONS, of which the first holds of what is numbered where the demands are met and the second holds of what it was: so it is
-- of whole fields. The first sees no difference in the type in which a field is looked up.
module _ {N P : Type 0} (eq : N → N → Bool) (q p : Mention N P → Bool) (alike : (t u i : Reference N P) → q (Member t i) ≡ q (Member u i))
    (so : (s : Scope N P) (m : Mention N P) → list_all is_met (mention_demands eq s m) ≡ true → p m ≡ true → q (mention_changed (numbering s) m) ≡ true) where
  mentions_so : (s : Scope N P) (ms : List (Mention N P)) → list_all is_met (flat_map (mention_demands eq s) ms) ≡ true → list_all p ms ≡ true → list_all (λ m. q (mention_changed (numbering s) m)) ms ≡ true
  mentions_so s [] e t = refl
  mentions_so s (m ∷ ms) e t =
      both_true (so s m (front is_met (mention_demands eq s m) (flat_map (mention_demands eq s) ms) e) (left (p m) (list_all p ms) t))
      (mentions_so s ms (back is_met (mention_demands eq s m) (flat_map (mention_demands eq s) ms) e) (right (p m) (list_all p ms) t))

  instr_so : (s : Scope N P) (i : Instruction N P) → list_all is_met (flat_map (mention_demands eq s) (instr_mentions i)) ≡ true → list_all p (instr_mentions i) ≡ true →
      list_all q (instr_mentions (instr_changed (numbering s) i)) ≡ true
  instr_so s i e t =
      let c = numbering s in
      seen c q (instr_mentions (instr_changed c i)) (instr_mentions i) (changes.instr_so c q (λ space x j. alike (c.index space x) x (c.member x j)) i) ∙ mentions_so s (instr_mentions i) e t

  instrs_so : (s : Scope N P) (before is : List (Instruction N P)) → list_all is_met (instrs_demands eq s before is) ≡ true → list_all p (flat_map instr_mentions is) ≡ true →
      list_all q (flat_map instr_mentions (instrs_changed (λ b i. numbering (scope_at eq s b i)) before is)) ≡ true
  instrs_so s before [] e t = refl
  instrs_so s before (i ∷ is) e t =
      let here = scope_at eq s before i in
      let own = flat_map (mention_demands eq here) (instr_mentions i) in
      both q (instr_mentions (instr_changed (numbering here) i)) (flat_map instr_mentions (instrs_changed (λ b j. numbering (scope_at eq s b j)) (i ∷ before) is))
      (instr_so here i (front is_met own (instrs_demands eq s (i ∷ before) is) e) (front p (instr_mentions i) (flat_map instr_mentions is) t))
      (instrs_so s (i ∷ before) is (back is_met own (instrs_demands eq s (i ∷ before) is) e) (back p (instr_mentions i) (flat_map instr_mentions is) t))

  func_so : (s : Scope N P) (f : Function N P) → list_all is_met (func_demands eq s f) ≡ true → list_all p (part_mentions (Body f)) ≡ true → list_all q (part_mentions (Body (func_changed (numberings eq s) f))) ≡ true
  func_so s f e t =
      let new = func_changed (numberings eq s) f in
      let use_part = use_demands eq s f.type_use in
      let local_part = flat_map (mention_demands eq s) (local_mentions f.locals) in
      let name_part = names.distinct eq (space_word Locals) (locals_of s f) in
      let body_part = instrs_demands eq (with_locals eq s (locals_of s f)) [] f.body.instrs in
      let before_body = front is_met (use_part ++ local_part ++ name_part) body_part e in
      let before_names = front is_met (use_part ++ local_part) name_part before_body in
      let after_use = right (p (Uses f.type_use)) (list_all p (local_mentions f.locals ++ expr_mentions f.body)) t in
      both_true
      (so s (Uses f.type_use) (front is_met use_part local_part before_names) (left (p (Uses f.type_use)) (list_all p (local_mentions f.locals ++ expr_mentions f.body)) t))
      (both q (local_mentions new.locals) (expr_mentions new.body)
      (seen (numbering s) q (local_mentions new.locals) (local_mentions f.locals) (changes.locals_so (numbering s) q f.locals)
      ∙ mentions_so s (local_mentions f.locals) (back is_met use_part local_part before_names) (front p (local_mentions f.locals) (expr_mentions f.body) after_use))
      (instrs_so (with_locals eq s (locals_of s f)) [] f.body.instrs (back is_met (use_part ++ local_part ++ name_part) body_part e) (back p (local_mentions f.locals) (expr_mentions f.body) after_use)))

  part_so : (s : Scope N P) (x : Part N P) → list_all is_met (part_demands eq s x) ≡ true → list_all p (part_mentions x) ≡ true → list_all q (part_mentions (part_changed (numberings eq s) x)) ≡ true
  part_so s (Says m) e t = both_true (so s m e (left (p m) true t)) refl
  part_so s (Constant x) e t = instrs_so s [] x.instrs e t
  part_so s (Body f) e t = func_so s f e t

  parts_met : (s : Scope N P) (xs : List (Part N P)) → list_all is_met (flat_map (part_demands eq s) xs) ≡ true → list_all p (flat_map part_mentions xs) ≡ true →
      list_all q (flat_map part_mentions (map (part_changed (numberings eq s)) xs)) ≡ true
  parts_met s [] e t = refl
  parts_met s (x ∷ xs) e t =
      both q (part_mentions (part_changed (numberings eq s) x)) (flat_map part_mentions (map (part_changed (numberings eq s)) xs))
      (part_so s x (front is_met (part_demands eq s x) (flat_map (part_demands eq s) xs) e) (front p (part_mentions x) (flat_map part_mentions xs) t))
      (parts_met s xs (back is_met (part_demands eq s x) (flat_map (part_demands eq s) xs) e) (back p (part_mentions x) (flat_map part_mentions xs) t))

  field_so : (s : Scope N P) (f : Field N P) → list_all is_met (field_demands eq s f) ≡ true → list_all p (field_mentions f) ≡ true → list_all q (field_mentions (field_changed (numberings eq s) f)) ≡ true
  field_so s f e t = ap (λ xs. list_all q (flat_map part_mentions xs)) (parts_so (numberings eq s) f) ∙ parts_met s (parts f) e t

  fields_so : (s : Scope N P) (fs : List (Field N P)) → list_all is_met (flat_map (field_demands eq s) fs) ≡ true → list_all (λ f. list_all p (field_mentions f)) fs ≡ true →
      list_all (λ f. list_all q (field_mentions f)) (map (field_changed (numberings eq s)) fs) ≡ true
  fields_so s [] e t = refl
  fields_so s (f ∷ fs) e t =
      both_true
      (field_so s f (front is_met (field_demands eq s f) (flat_map (field_demands eq s) fs) e) (left (list_all p (field_mentions f)) (list_all (λ g. list_all p (field_mentions g)) fs) t))
      (fields_so s fs (back is_met (field_demands eq s f) (flat_map (field_demands eq s) fs) e) (right (list_all p (field_mentions f)) (list_all (λ g. list_all p (field_mentions g)) fs) t))

  numbered_so : (fs : List (Field N P)) → first_unmet is_met (demands eq fs) ≡ None → list_all (λ f. list_all p (field_mentions f)) fs ≡ true → list_all (λ f. list_all q (field_mentions f)) (numbered eq fs) ≡ true
  numbered_so fs e t =
      fields_so (scope_of eq fs) fs (back is_met (order_demands fs ++ item_demands eq (flat_map items fs)) (flat_map (field_demands eq (scope_of eq fs)) fs) (all_met (demands eq fs) e)) t

-- NUMBERS: an index whose name means something
module _ {N P : Type 0} where
  found_number : (o : Option ℕ) (id : N × P) → is_some o ≡ true → is_number (names.number_or o id.1 (ByName id)) ≡ true
  found_number None id e = elim (false≢true e) [ ]
  found_number (Some n) id e = refl

  known_number : (kind : List ℕ) (space : names.Space N) (i : Reference N P) → list_all is_met (names.known kind space i) ≡ true → is_number (names.resolved space i) ≡ true
  known_number kind space (ByNumber n p) e = refl
  known_number kind space (ByName id) e = found_number (space.look id.0) id (left (is_some (space.look id.0)) true e)

module _ {N P : Type 0} (eq : N → N → Bool) where
  says_so : (s : Scope N P) (m : Mention N P) → list_all is_met (says_demands eq s m) ≡ true → says_number (mention_changed (numbering s) m) ≡ true
  says_so s (Refers space i) e = known_number (space_word space) (s.spaces space) i e
  says_so s (Member t i) e = known_number (space_word Fields) (members s t) i e
  says_so s (Repeats id) e = refl
  says_so s (Uses u) e = refl
  says_so s (UsesInBlock u) e = refl

  all_said : (s : Scope N P) (ms : List (Mention N P)) → list_all is_met (flat_map (says_demands eq s) ms) ≡ true → list_all (λ m. says_number (mention_changed (numbering s) m)) ms ≡ true
  all_said s [] e = refl
  all_said s (m ∷ ms) e =
      both_true (says_so s m (front is_met (says_demands eq s m) (flat_map (says_demands eq s) ms) e)) (all_said s ms (back is_met (says_demands eq s m) (flat_map (says_demands eq s) ms) e))

  use_so : (s : Scope N P) (u : TypeUse N P) → list_all is_met (use_demands eq s u) ≡ true → list_all says_number (use_mentions (use_changed (numbering s) u)) ≡ true
  use_so s u e =
      seen (numbering s) says_number (use_mentions (use_changed (numbering s) u)) (use_mentions u) (changes.use_so (numbering s) says_number u)
      ∙ all_said s (use_mentions u) (front is_met (flat_map (says_demands eq s) (use_mentions u)) (agreements s u) e)

  numbers_so : (s : Scope N P) (m : Mention N P) → list_all is_met (mention_demands eq s m) ≡ true → numbers_said (mention_changed (numbering s) m) ≡ true
  numbers_so s (Refers space i) e = says_so s (Refers space i) e
  numbers_so s (Member t i) e = says_so s (Member t i) e
  numbers_so s (Repeats id) e = refl
  numbers_so s (Uses u) e = use_so s u e
  numbers_so s (UsesInBlock u) e = use_so s u e

  abbrev whatever : Mention N P → Bool
  whatever m = true

  pub instr_numbers : (s : Scope N P) (i : Instruction N P) → list_all is_met (flat_map (mention_demands eq s) (instr_mentions i)) ≡ true → list_all numbers_said (instr_mentions (instr_changed (numbering s) i)) ≡ true
  instr_numbers s i e = instr_so eq numbers_said whatever (λ t u j. refl) (λ r m h t. numbers_so r m h) s i e (each_true whatever (λ m. refl) (instr_mentions i))

  -- whether or not uses have their types
  pub numbered_numbers : (fs : List (Field N P)) → first_unmet is_met (demands eq fs) ≡ None → are_numbers (numbered eq fs) ≡ true
  numbered_numbers fs e = numbered_so eq numbers_said whatever (λ t u j. refl) (λ s m h t. numbers_so s m h) fs e (each_true (λ f. list_all whatever (field_mentions f)) (λ f. each_true whatever (λ m. refl) (field_mentions f)) fs)

-- USES that have their types
module _ {N P : Type 0} where
  use_number : (i : Option (Reference N P)) (ms : List (Mention N P)) → list_all says_number (refers_if Types i ++ ms) ≡ true → is_some i ≡ true → has_number i ≡ true
  use_number None ms e t = elim (false≢true t) [ ]
  use_number (Some i) ms e t = left (is_number i) (list_all says_number ms) e

  block_number : (i : Option (Reference N P)) (short : Bool) (ms : List (Mention N P)) → list_all says_number (refers_if Types i ++ ms) ≡ true → (is_some i || short) ≡ true →
      (has_number i || (not (is_some i) && short)) ≡ true
  block_number None short ms e t = t
  block_number (Some i) short ms e t = ap (λ b. b || false) (left (is_number i) (list_all says_number ms) e)

  settled_if : (m : Mention N P) → numbers_said m ≡ true → is_typed m ≡ true → is_settled m ≡ true
  settled_if (Refers s i) e t = e
  settled_if (Member x i) e t = e
  settled_if (Repeats id) e t = e
  settled_if (Uses u) e t = both_true (use_number u.index (flat_map sig_mentions (option_to_list u.inline)) e t) e
  settled_if (UsesInBlock u) e t = both_true (block_number u.index (is_short (unwrap_or u.inline no_sig)) (flat_map sig_mentions (option_to_list u.inline)) e t) e

  -- have them when they are numbered
  short_kept : (c : Change N P) (o : Option (Sig N P)) → is_short (unwrap_or (option_map (sig_changed c) o) no_sig) ≡ is_short (unwrap_or o no_sig)
  short_kept c None = refl
  short_kept c (Some t) = two (λ m n. nat_eq m 0 && nat_le n 1) (length-map t.params (local_changed c)) (length-map t.results (val_changed c))

  typed_kept : (s : Scope N P) (m : Mention N P) → is_typed (mention_changed (numbering s) m) ≡ is_typed m
  typed_kept s (Refers space i) = refl
  typed_kept s (Member t i) = refl
  typed_kept s (Repeats id) = refl
  typed_kept s (Uses u) = some_map (names.resolved (s.spaces Types)) u.index
  typed_kept s (UsesInBlock u) = two (λ a b. a || b) (some_map (names.resolved (s.spaces Types)) u.index) (short_kept (numbering s) u.inline)

pub numbered_settles : {N P : Type 0} (eq : N → N → Bool) (fs : List (Field N P)) → first_unmet is_met (demands eq fs) ≡ None → are_typed fs ≡ true → are_settled (numbered eq fs) ≡ true
numbered_settles eq fs e t = numbered_so eq is_settled is_typed (λ x y i. refl) (λ s m h u. settled_if (mention_changed (numbering s) m) (numbers_so eq s m h) (typed_kept s m ∙ u)) fs e t
