-- What is demanded by what a scope tells.
use Rattle.std.proofs.Common.{◌≡◌, ℕ, Bool, true, false, List, [], ◌∷◌, ◌++◌, map, Option, Some, None, refl, sym, ◌∙◌, ap, nat_eq}
use Rattle.std.specs.Prelude.{◌&&◌, option_map, option_and_then, option_to_list, unwrap_or}
use Rattle.std.specs.List.{flat_map}
use Rattle.std.specs.Cmp.Lexicographic.{pointwise}
use Rattle.wasm_encoder_base.specs.Table.{Space, Labels, Locals, Functions, Types, Tables, Memories, Globals, Tags, Datas, Elems, Fields}
use Rattle.wast_grammar.specs.Tokens.{Name}
use Rattle.wast_grammar.specs.Spelling.{same_name}
use Rattle.wast_parser.specs.Identifiers.{Named, Reference, ByNumber, ByName}
use Rattle.wast_value_types.specs.ValueTree.{HeapType, Abstract, Concrete, Exact, ValType, Number, Ref}
use Rattle.wast_names.specs.Demand.{Demand, TypeMismatch}
use Rattle.wast_names.specs.Space as names
use Rattle.wast_signatures.specs.TypeTree.{Sig, TypeUse}
use Rattle.wast_core_instr.specs.InstructionTree.{Instruction}
use Rattle.wast_module_fields.specs.FieldTree.{Function}
use Rattle.wast_meaning.specs.Mentions.{Mention, Refers, Member, Uses, UsesInBlock, Repeats, Part, Says, Constant, Body, use_mentions, local_mentions, instr_mentions}
use Rattle.wast_meaning.specs.Spaces.{space_word}
use Rattle.wast_meaning.specs.Implied.{no_sig, number_code, same_flag, same_option, same_heap, same_val, same_local, same_sig}
use Rattle.wast_meaning.specs.Scope as scopes
use Rattle.wast_meaning.specs.Scope.{Scope, turn_of_head, labels_found, labels_after, open_labels, labels_or, locals_or, label_space, scope_at, members, params_of_index, params_of, locals_of}
use Rattle.wast_meaning.specs.Demands.{same_numbered, agrees, agreement, agreements, place_of, says_demands, use_demands, mention_demands, instrs_demands, func_demands, part_demands}
use Rattle.wast_meaning.proofs.Labels.{stacked, found_so}
use Rattle.wast_scopes.specs.Numbered.{Look, number_by, NumberedValue, numbered_heap, numbered_value, numbered_sig, same_numbered_value, same_numbered_sig, same_sig_by, params_in}
use Rattle.wast_scopes.specs.Known.{Known, known_in, known_by, look_among, with_locals, known_at, members_by, says_by, agreement_by, agreements_by, use_by, mention_by, instrs_by, params_of_index_by, params_by, locals_by, func_by, part_by}

-- INDICES
number_is : (s : names.Space Name) (i : Reference Name ℕ) → number_by s.look i ≡ names.number_of s i
number_is s (ByNumber n p) = refl
number_is s (ByName id) = refl

known_is : (kind : List ℕ) (s : names.Space Name) (i : Reference Name ℕ) → known_by kind s.look i ≡ names.known kind s i
known_is kind s (ByNumber n p) = refl
known_is kind s (ByName id) = refl

-- TYPES that are numbered alike are the same
and_false : (b : Bool) → (b && false) ≡ false
and_false true = refl
and_false false = refl

module _ (s : Scope Name ℕ) where
  abbrev types : Look
  types = (s.spaces Types).look

  same_index : (i j : Reference Name ℕ) → same_option nat_eq (number_by types i) (number_by types j) ≡ same_numbered s i j
  same_index i j = ap (λ n. same_option nat_eq n (number_by types j)) (number_is (s.spaces Types) i) ∙ ap (same_option nat_eq (names.number_of (s.spaces Types) i)) (number_is (s.spaces Types) j)

  heap_is : (a b : Bool) (g h : HeapType Name ℕ) → same_numbered_value (numbered_heap types a g) (numbered_heap types b h) ≡ (same_flag a b && same_heap (same_numbered s) g h)
  heap_is a b (Abstract s v) (Abstract t w) = refl
  heap_is a b (Abstract s v) (Concrete j) = sym (and_false (same_flag a b))
  heap_is a b (Abstract s v) (Exact j) = sym (and_false (same_flag a b))
  heap_is a b (Concrete i) (Abstract t w) = sym (and_false (same_flag a b))
  heap_is a b (Concrete i) (Concrete j) = ap (λ e. same_flag a b && e) (same_index i j)
  heap_is a b (Concrete i) (Exact j) = refl
  heap_is a b (Exact i) (Abstract t w) = sym (and_false (same_flag a b))
  heap_is a b (Exact i) (Concrete j) = refl
  heap_is a b (Exact i) (Exact j) = ap (λ e. same_flag a b && e) (same_index i j)

  heap_no_number : (a : Bool) (g : HeapType Name ℕ) (n : ℕ) → same_numbered_value (numbered_heap types a g) (Rattle.wast_scopes.specs.Numbered.OfNumber n) ≡ false
  heap_no_number a (Abstract t v) n = refl
  heap_no_number a (Concrete i) n = refl
  heap_no_number a (Exact i) n = refl

  number_no_heap : (a : Bool) (g : HeapType Name ℕ) (n : ℕ) → same_numbered_value (Rattle.wast_scopes.specs.Numbered.OfNumber n) (numbered_heap types a g) ≡ false
  number_no_heap a (Abstract t v) n = refl
  number_no_heap a (Concrete i) n = refl
  number_no_heap a (Exact i) n = refl

  value_is : (x y : ValType Name ℕ) → same_numbered_value (numbered_value types x) (numbered_value types y) ≡ same_val (same_numbered s) x y
  value_is (Number a) (Number b) = refl
  value_is (Number a) (Ref r) = number_no_heap r.nullable r.heap_type (number_code a)
  value_is (Ref r) (Number b) = heap_no_number r.nullable r.heap_type (number_code b)
  value_is (Ref r) (Ref q) = heap_is r.nullable q.nullable r.heap_type q.heap_type

  each_is : {X : Type 0} (number : X → NumberedValue) (same : X → X → Bool) → ((x y : X) → same_numbered_value (number x) (number y) ≡ same x y) → (xs ys : List X)
      → pointwise same_numbered_value (map number xs) (map number ys) ≡ pointwise same xs ys
  each_is number same h [] [] = refl
  each_is number same h [] (y ∷ ys) = refl
  each_is number same h (x ∷ xs) [] = refl
  each_is number same h (x ∷ xs) (y ∷ ys) = ap (λ b. b && pointwise same_numbered_value (map number xs) (map number ys)) (h x y) ∙ ap (λ b. same x y && b) (each_is number same h xs ys)

  sig_is : (a b : Sig Name ℕ) → same_numbered_sig (numbered_sig types a) (numbered_sig types b) ≡ same_sig (same_numbered s) a b
  sig_is a b =
      ap (λ t. t && pointwise same_numbered_value (map (numbered_value types) a.results) (map (numbered_value types) b.results))
      (each_is (λ l. numbered_value types l.val_type) (same_local (same_numbered s)) (λ x y. value_is x.val_type y.val_type) a.params b.params)
      ∙ ap (λ t. pointwise (same_local (same_numbered s)) a.params b.params && t) (each_is (numbered_value types) (same_val (same_numbered s)) value_is a.results b.results)

  -- MENTIONS
  abbrev k : Known
  k = known_in s

  members_is : (t : Reference Name ℕ) → members_by k t ≡ (members s t).look
  members_is t = λ i n. (ap (λ o. option_and_then (λ j. k.fields j n) o) (number_is (s.spaces Types) t) ∙ of (names.number_of (s.spaces Types) t) n) i
    where
      of : (o : Option ℕ) (n : Name) → option_and_then (λ j. (s.fields j).look n) o ≡ (elim o as (λ _. names.Space Name) [ Some j ↦ s.fields j | None ↦ names.empty ]).look n
      of None n = refl
      of (Some j) n = refl

  agrees_is : (sig : Sig Name ℕ) (o : Option ℕ) → same_sig_by types sig (option_and_then k.sig_of o) ≡ agrees s sig (option_and_then s.sig_of o)
  agrees_is sig None = refl
  agrees_is sig (Some n) = of (s.sig_of n)
    where
      of : (o : Option (Sig Name ℕ)) → same_sig_by types sig (option_map (numbered_sig types) o) ≡ agrees s sig o
      of None = refl
      of (Some other) = sig_is sig other

  agreement_is : (i : Reference Name ℕ) (sig : Sig Name ℕ) → agreement_by k i sig ≡ agreement s i sig
  agreement_is i sig =
      ap (λ b. record { place = place_of i; complaint = TypeMismatch; holds = b })
      (ap (λ o. same_sig_by types sig (option_and_then k.sig_of o)) (number_is (s.spaces Types) i) ∙ agrees_is sig (names.number_of (s.spaces Types) i))

  agreements_is : (u : TypeUse Name ℕ) → agreements_by k u ≡ agreements s u
  agreements_is u = ap (λ (f : Reference Name ℕ → Sig Name ℕ → Demand Name ℕ). flat_map (λ i. map (f i) (option_to_list u.inline)) (option_to_list u.index)) (λ j i sig. agreement_is i sig j)

  says_is : (m : Mention Name ℕ) → says_by k m ≡ says_demands same_name s m
  says_is (Refers space i) = known_is (space_word space) (s.spaces space) i
  says_is (Member t i) = ap (λ look. known_by (space_word Fields) look i) (members_is t) ∙ known_is (space_word Fields) (members s t) i
  says_is (Repeats id) = refl
  says_is (Uses u) = refl
  says_is (UsesInBlock u) = refl

  use_is : (u : TypeUse Name ℕ) → use_by k u ≡ use_demands same_name s u
  use_is u = ap (λ f. flat_map f (use_mentions u) ++ agreements_by k u) (λ i m. says_is m i) ∙ ap (λ l. flat_map (says_demands same_name s) (use_mentions u) ++ l) (agreements_is u)

  pub mention_is : (m : Mention Name ℕ) → mention_by k m ≡ mention_demands same_name s m
  mention_is (Refers space i) = says_is (Refers space i)
  mention_is (Member t i) = says_is (Member t i)
  mention_is (Repeats id) = says_is (Repeats id)
  mention_is (Uses u) = use_is u
  mention_is (UsesInBlock u) = use_is u

  -- LOCALS
  unnamed_is : {A : Type 0} (number : A → NumberedValue) (xs : List A) → map {A = NumberedValue} {B = Option (Named Name ℕ)} (λ p. None) (map number xs) ≡ map (λ p. None) xs
  unnamed_is number [] = refl
  unnamed_is number (x ∷ xs) = ap (λ l. None ∷ l) (unnamed_is number xs)

  params_of_index_is : (i : Option (Reference Name ℕ)) → params_of_index_by k i ≡ params_of_index s i
  params_of_index_is None = refl
  params_of_index_is (Some i) = ap (λ o. params_in (option_and_then k.sig_of o)) (number_is (s.spaces Types) i) ∙ of_number (names.number_of (s.spaces Types) i)
    where
      of_sig : (o : Option (Sig Name ℕ)) → params_in (option_map (numbered_sig types) o) ≡ map (λ p. None) (unwrap_or o no_sig).params
      of_sig None = refl
      of_sig (Some sig) = unnamed_is (λ l. numbered_value types l.val_type) sig.params

      of_number : (o : Option ℕ) → params_in (option_and_then k.sig_of o) ≡ map (λ p. None) (unwrap_or (option_and_then s.sig_of o) no_sig).params
      of_number None = refl
      of_number (Some n) = of_sig (s.sig_of n)

  params_is : (u : TypeUse Name ℕ) → params_by k u ≡ params_of s u
  params_is u = of u.inline
    where
      of : (o : Option (Sig Name ℕ)) → (elim o as (λ _. List (Option (Named Name ℕ))) [ Some sig ↦ map (λ p. p.id) sig.params | None ↦ params_of_index_by k u.index ]) ≡ (elim o as (λ _. List (Option (Named Name ℕ))) [ Some sig ↦ map (λ p. p.id) sig.params | None ↦ params_of_index s u.index ])
      of None = params_of_index_is u.index
      of (Some sig) = refl

  locals_is : (f : Function Name ℕ) → locals_by k f ≡ locals_of s f
  locals_is f = ap (λ l. l ++ map (λ x. x.id) f.locals) (params_is f.type_use)

  with_locals_is : (ids : List (Option (Named Name ℕ))) → with_locals (known_in s) ids ≡ known_in (scopes.with_locals same_name s ids)
  with_locals_is ids = ap (λ look. record { look = look; fields = k.fields; sig_of = k.sig_of; blocks = k.blocks }) (λ i t. of t i)
    where
      of : (t : Space) → locals_or (look_among ids) k.look t ≡ (locals_or (Rattle.wast_meaning.specs.Spaces.listed same_name ids) s.spaces t).look
      of Labels = refl
      of Locals = refl
      of Functions = refl
      of Types = refl
      of Tables = refl
      of Memories = refl
      of Globals = refl
      of Tags = refl
      of Datas = refl
      of Elems = refl
      of Fields = refl

  -- LABELS
  after_is : (before : List (Instruction Name ℕ)) (i : Instruction Name ℕ) → labels_after (open_labels before) i ≡ open_labels (i ∷ before)
  after_is before i = sym (stacked i before)

  known_at_is : (before : List (Instruction Name ℕ)) (i : Instruction Name ℕ) → known_at (known_in s) (open_labels before) i ≡ known_in (scope_at same_name s before i)
  known_at_is before i = ap (λ look. record { look = look; fields = k.fields; sig_of = k.sig_of; blocks = open_labels before }) (λ j t. of t j)
    where
      of : (t : Space) → labels_or (look_among (labels_found (turn_of_head i.head) (open_labels before))) k.look t ≡ (labels_or (label_space same_name before i) s.spaces t).look
      of Labels = ap look_among (sym (found_so (turn_of_head i.head) before))
      of Locals = refl
      of Functions = refl
      of Types = refl
      of Tables = refl
      of Memories = refl
      of Globals = refl
      of Tags = refl
      of Datas = refl
      of Elems = refl
      of Fields = refl

each_mention : (s : Scope Name ℕ) (ms : List (Mention Name ℕ)) → flat_map (mention_by (known_in s)) ms ≡ flat_map (mention_demands same_name s) ms
each_mention s ms = ap (λ f. flat_map f ms) (λ i m. mention_is s m i)

instrs_is : (s : Scope Name ℕ) (before is : List (Instruction Name ℕ)) → instrs_by (known_in s) (open_labels before) is ≡ instrs_demands same_name s before is
instrs_is s before [] = refl
instrs_is s before (i ∷ is) =
    ap (λ (l : List (Demand Name ℕ)). l ++ instrs_by (known_in s) (labels_after (open_labels before) i) is)
    (ap (λ q. flat_map (mention_by q) (instr_mentions i)) (known_at_is s before i) ∙ each_mention (scope_at same_name s before i) (instr_mentions i))
    ∙ ap (λ (l : List (Demand Name ℕ)). flat_map (mention_demands same_name (scope_at same_name s before i)) (instr_mentions i) ++ l)
    (ap (λ blocks. instrs_by (known_in s) blocks is) (after_is s before i) ∙ instrs_is s (i ∷ before) is)

func_is : (s : Scope Name ℕ) (f : Function Name ℕ) → func_by (known_in s) f ≡ func_demands same_name s f
func_is s f =
    let types = local_mentions f.locals in
    let own : List (Option (Named Name ℕ)) → List (Demand Name ℕ) = λ ids. names.distinct same_name (space_word Locals) ids in
    let body : List (Option (Named Name ℕ)) → List (Demand Name ℕ) = λ ids. instrs_by (with_locals (known_in s) ids) [] f.body.instrs in
    let ids = locals_by (known_in s) f in
    ap (λ (l : List (Demand Name ℕ)). l ++ flat_map (mention_by (known_in s)) types ++ own ids ++ body ids) (use_is s f.type_use)
    ∙ ap (λ (l : List (Demand Name ℕ)). use_demands same_name s f.type_use ++ l ++ own ids ++ body ids) (each_mention s types)
    ∙ ap (λ (l : List (Option (Named Name ℕ))). use_demands same_name s f.type_use ++ flat_map (mention_demands same_name s) types ++ own l ++ body l) (locals_is s f)
    ∙ ap (λ (l : List (Demand Name ℕ)). use_demands same_name s f.type_use ++ flat_map (mention_demands same_name s) types ++ own (locals_of s f) ++ l)
    (ap (λ q. instrs_by q [] f.body.instrs) (with_locals_is s (locals_of s f)) ∙ instrs_is (scopes.with_locals same_name s (locals_of s f)) [] f.body.instrs)

pub part_is : (s : Scope Name ℕ) (p : Part Name ℕ) → part_by (known_in s) p ≡ part_demands same_name s p
part_is s (Says m) = mention_is s m
part_is s (Constant e) = instrs_is s [] e.instrs
part_is s (Body f) = func_is s f
