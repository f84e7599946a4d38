-- Fields that have their types, with the implied types behind them: nothing means anything else among them, and they imply no type.
use Rattle.std.proofs.Common.{◌≡◌, ℕ, zero, suc, ◌+◌, Bool, true, false, List, [], ◌∷◌, ◌++◌, map, length, Option, Some, None, cond, is_some, refl, sym, ◌∙◌, ap, arith}
use Rattle.std.specs.Prelude.{if◌then◌else◌, filter, filter_map, slice_get, option_and_then}
use Rattle.std.specs.List.{flat_map, list_all, position_from}
use Rattle.std.specs.Option.{option_or}
use Rattle.std.specs.Cmp.Derive.{both_true}
use Rattle.std.specs.Cmp.Lexicographic.{pointwise}
use Rattle.std.proofs.Math.Path.{fun_ext}
use Rattle.std.proofs.lemmas.Bool.{eq-eqb}
use Rattle.std.proofs.lemmas.List.{map-append, append-nil, length-append}
use Rattle.std.proofs.lemmas.List.Elements.{filter-append}
use Rattle.std.proofs.lemmas.Grind.{flat_map-append}
use Rattle.wasm_encoder_base.specs.Table.{Space, Labels, Locals, Functions, Types, Tables, Memories, Globals, Tags, Datas, Elems, Fields}
use Rattle.wast_parser.specs.Identifiers.{Reference, ByNumber, ByName}
use Rattle.wast_names.specs.Position.{bears, last_from}
use Rattle.wast_names.specs.Space as names
use Rattle.wast_names.specs.Space.{last_counts, denoted}
use Rattle.wast_value_types.specs.ValueTree.{HeapType, Abstract, Concrete, Exact, ValType, Number, Ref}
use Rattle.wast_signatures.specs.TypeTree.{Sig, TypeItem}
use Rattle.wast_field_syntax.specs.FieldTree.{Field, field_place}
use Rattle.wast_meaning.specs.Mentions.{sig_mentions, field_mentions}
use Rattle.wast_meaning.specs.Spaces.{Bound, bound, same_space, space_word, items, items_in, ids_in, fields_at, denotes, listed}
use Rattle.wast_meaning.specs.Implied.{number_code, word_code, same_flag, same_heap, same_val, same_local, same_sig, same_written, sig_of_mention, used_sigs, written_types, plain_sig, implied_by, implied, implied_sigs, sig_at, type_taken, type_count}
use Rattle.wast_meaning.specs.Scope.{space_count, index_space, scope_of}
use Rattle.wast_meaning.specs.Numbered.{with_types, implied_field, expanded}
use Rattle.wast_meaning.proofs.Settled.{left, right, two, front, back}
use Rattle.wast_meaning.proofs.SettledFields.{said_parts}
use Rattle.wast_meaning.specs.Settled.{is_typed, are_typed}
use Rattle.wast_meaning.proofs.Taken.{taken_in, types_after, types_with, types_so, taken_so, plain_types, implied_so}
use Rattle.wast_resolve_laws.proofs.Fresh.{own_names, own_joined}
use Rattle.wast_resolve_laws.proofs.Kept.{items_kept, written_changed, written_types_kept}
use Rattle.wast_resolve_laws.proofs.Taking.{all_same, both, all_taking, type_same, field_typed, sig_holds, no_sigs}
use Rattle.wast_resolve_laws.proofs.Sigs.{sig_of_type, implied_sig, placed, unplaced}

-- A TYPE IS EQUAL TO ITSELF, where indices are
module _ {N P : Type 0} (same : Reference N P → Reference N P → Bool) (itself : (i : Reference N P) → same i i ≡ true) where
  flag_self : (b : Bool) → same_flag b b ≡ true
  flag_self true = refl
  flag_self false = refl

  heap_self : (h : HeapType N P) → same_heap same h h ≡ true
  heap_self (Abstract s a) = both_true (flag_self s) (eq-eqb (word_code a) (word_code a) refl)
  heap_self (Concrete i) = itself i
  heap_self (Exact i) = itself i

  val_self : (t : ValType N P) → same_val same t t ≡ true
  val_self (Number a) = eq-eqb (number_code a) (number_code a) refl
  val_self (Ref r) = both_true (flag_self r.nullable) (heap_self r.heap_type)

  each_self : {A : Type 0} (f : A → A → Bool) → ((a : A) → f a a ≡ true) → (xs : List A) → pointwise f xs xs ≡ true
  each_self f h [] = refl
  each_self f h (x ∷ xs) = both_true (h x) (each_self f h xs)

  pub sig_self : (s : Sig N P) → same_sig same s s ≡ true
  sig_self s = both_true (each_self (same_local same) (λ l. val_self l.val_type) s.params) (each_self (same_val same) val_self s.results)

pub written_self : {N P : Type 0} (eq : N → N → Bool) → ((n : N) → eq n n ≡ true) → (i : Reference N P) → same_written eq i i ≡ true
written_self eq self (ByNumber n p) = eq-eqb n n refl
written_self eq self (ByName id) = self id.0

-- ITEMS AND WRITTEN TYPES
-- the item of an implied type
abbrev pub nameless : {N P : Type 0} → Bound N P
nameless = bound Types None None

module _ {N P : Type 0} where
  abbrev pub taking_all : (Sig N P → Option ℕ) → List (Field N P) → List (Field N P)
  taking_all taken fs = map (λ f. with_types taken (field_place f) f) fs

  items_taken : (taken : Sig N P → Option ℕ) (fs : List (Field N P)) → flat_map items (taking_all taken fs) ≡ flat_map items fs
  items_taken taken [] = refl
  items_taken taken (f ∷ fs) = two (λ a b. a ++ b) (items_kept (all_taking taken (field_place f)) f) (items_taken taken fs)

  abbrev pub nameless_for : P × Sig N P → Bound N P
  nameless_for u = nameless

  items_implied : (us : List (P × Sig N P)) → flat_map items (map implied_field us) ≡ map nameless_for us
  items_implied [] = refl
  items_implied (u ∷ us) = ap (λ l. nameless ∷ l) (items_implied us)

  written_same : (taken : Sig N P → Option ℕ) (p : P) (f : Field N P) → written_types (with_types taken p f) ≡ written_types f
  written_same taken p f =
      written_types_kept (all_taking taken p) f ∙ all_same (written_changed (all_taking taken p)) (λ t. ap (λ (x : TypeItem N P). (x, t.1)) (type_same taken p t.0)) (written_types f)

  written_taken : (taken : Sig N P → Option ℕ) (fs : List (Field N P)) → flat_map written_types (taking_all taken fs) ≡ flat_map written_types fs
  written_taken taken [] = refl
  written_taken taken (f ∷ fs) = two (λ a b. a ++ b) (written_same taken (field_place f) f) (written_taken taken fs)

  sigs_of_implied : (us : List (P × Sig N P)) → map sig_of_type (flat_map written_types (map implied_field us)) ≡ map implied_sig us
  sigs_of_implied [] = refl
  sigs_of_implied (u ∷ us) = ap (λ l. Some u.1 ∷ l) (sigs_of_implied us)

  count_of_implied : (us : List (P × Sig N P)) → length (flat_map written_types (map implied_field us)) ≡ length us
  count_of_implied [] = refl
  count_of_implied (u ∷ us) = ap (λ n. suc n) (count_of_implied us)

  -- EACH USE HAS ITS TYPE
  abbrev own_typed : Field N P → Bool
  own_typed f = list_all is_typed (field_mentions f)

  -- the types are there that uses take
  abbrev pub there : (Sig N P → Option ℕ) → P × Sig N P → Bool
  there taken u = is_some (taken u.1)

  taken_typed : (taken : Sig N P → Option ℕ) (fs : List (Field N P)) → list_all (there taken) (flat_map used_sigs fs) ≡ true → are_typed (taking_all taken fs) ≡ true
  taken_typed taken [] h = refl
  taken_typed taken (f ∷ fs) h =
      both_true
      (field_typed taken (field_place f) f (sym (unplaced (λ t. is_some (taken t)) (field_place f) (flat_map sig_of_mention (field_mentions f))) ∙ front (there taken) (used_sigs f) (flat_map used_sigs fs) h))
      (taken_typed taken fs (back (there taken) (used_sigs f) (flat_map used_sigs fs) h))

  implied_typed : (us : List (P × Sig N P)) → are_typed (map implied_field us) ≡ true
  implied_typed [] = refl
  implied_typed (u ∷ us) = both_true (ap (λ l. list_all is_typed l) (said_parts (sig_mentions u.1)) ∙ sig_holds is_typed (λ i. refl) u.1) (implied_typed us)

  -- then no type is implied
  no_uses : (fs : List (Field N P)) → are_typed fs ≡ true → flat_map used_sigs fs ≡ []
  no_uses [] h = refl
  no_uses (f ∷ fs) h =
      two (λ a b. a ++ b) (ap (λ l. map (placed (field_place f)) l) (no_sigs (field_mentions f) (left (own_typed f) (are_typed fs) h))) (no_uses fs (right (own_typed f) (are_typed fs) h))

module _ {N P : Type 0} (eq : N → N → Bool) where
  pub items_expanded : (fs : List (Field N P)) → flat_map items (expanded eq fs) ≡ flat_map items fs ++ map nameless_for (implied eq fs)
  items_expanded fs =
      flat_map-append items (taking_all (type_taken eq fs) fs) (map implied_field (implied eq fs))
      ∙ two (λ a b. a ++ b) (items_taken (type_taken eq fs) fs) (items_implied (implied eq fs))

  written_expanded : (fs : List (Field N P)) → flat_map written_types (expanded eq fs) ≡ flat_map written_types fs ++ flat_map written_types (map implied_field (implied eq fs))
  written_expanded fs =
      flat_map-append written_types (taking_all (type_taken eq fs) fs) (map implied_field (implied eq fs))
      ∙ ap (λ l. l ++ flat_map written_types (map implied_field (implied eq fs))) (written_taken (type_taken eq fs) fs)

  abbrev sigs : List (Field N P) → List (Option (Sig N P))
  sigs fs = map sig_of_type (flat_map written_types fs)

  sigs_expanded : (fs : List (Field N P)) → sigs (expanded eq fs) ≡ sigs fs ++ implied_sigs eq fs
  sigs_expanded fs =
      ap (λ l. map sig_of_type l) (written_expanded fs)
      ∙ map-append sig_of_type (flat_map written_types fs) (flat_map written_types (map implied_field (implied eq fs)))
      ∙ ap (λ l. sigs fs ++ l) (sigs_of_implied (implied eq fs))

  pub typed_implies_none : (fs : List (Field N P)) → are_typed fs ≡ true → implied eq fs ≡ []
  typed_implies_none fs h = ap (λ us. implied_by eq (filter_map plain_sig (flat_map written_types fs)) us) (no_uses fs h)

  -- WHAT NAMES MEAN
  abbrev none_for : P × Sig N P → Option N
  none_for u = None

  abbrev where_so : Bool → List (P × Sig N P) → List (P × Sig N P)
  where_so true us = us
  where_so false us = []

  abbrev own_after : Space → Bool → List (Bound N P) → List (Option N)
  own_after s b bs = map names.name_in (map (λ x. x.id) (if b then nameless ∷ filter (λ x. same_space s x.space) bs else filter (λ x. same_space s x.space) bs))

  no_names : (s : Space) (b : Bool) → same_space s Types ≡ b → (us : List (P × Sig N P)) → own_names s (map nameless_for us) ≡ map none_for (where_so b us)
  no_names s true e [] = refl
  no_names s true e (u ∷ us) = ap (λ b. own_after s b (map nameless_for us)) e ∙ ap (λ l. None ∷ l) (no_names s true e us)
  no_names s false e [] = refl
  no_names s false e (u ∷ us) = ap (λ b. own_after s b (map nameless_for us)) e ∙ no_names s false e us

  names_expanded : (s : Space) (fs : List (Field N P)) → map names.name_in (ids_in s (expanded eq fs)) ≡ map names.name_in (ids_in s fs) ++ map none_for (where_so (same_space s Types) (implied eq fs))
  names_expanded s fs =
      ap (own_names s) (items_expanded fs)
      ∙ own_joined s (flat_map items fs) (map nameless_for (implied eq fs))
      ∙ ap (λ l. own_names s (flat_map items fs) ++ l) (no_names s (same_space s Types) refl (implied eq fs))

  -- items without names behind others
  first_more : (n : N) (i : ℕ) (xs : List (Option N)) (us : List (P × Sig N P)) → position_from (bears eq n) i (xs ++ map none_for us) ≡ position_from (bears eq n) i xs
  first_more n i [] [] = refl
  first_more n i [] (u ∷ us) = first_more n (i + 1) [] us
  first_more n i (x ∷ xs) us = ap (λ o. cond (bears eq n x) (Some i) o) (first_more n (i + 1) xs us)

  last_more : (n : N) (i : ℕ) (xs : List (Option N)) (us : List (P × Sig N P)) → last_from eq n i (xs ++ map none_for us) ≡ last_from eq n i xs
  last_more n i [] [] = refl
  last_more n i [] (u ∷ us) = ap (λ (o : Option ℕ). option_or o None) (last_more n (i + 1) [] us)
  last_more n i (x ∷ xs) us = ap (λ o. option_or o (if bears eq n x then Some i else None)) (last_more n (i + 1) xs us)

  look_kept : (fs : List (Field N P)) (s : Space) (n : N) → denoted eq (space_word s) n (map names.name_in (ids_in s (expanded eq fs))) ≡ denoted eq (space_word s) n (map names.name_in (ids_in s fs))
  look_kept fs s n =
      ap (denoted eq (space_word s) n) (names_expanded s fs)
      ∙ two (λ a b. if last_counts (space_word s) then a else b)
      (last_more n 0 (map names.name_in (ids_in s fs)) (where_so (same_space s Types) (implied eq fs)))
      (first_more n 0 (map names.name_in (ids_in s fs)) (where_so (same_space s Types) (implied eq fs)))

  -- a name means the same
  pub denotes_kept : (fs : List (Field N P)) (s : Space) (n : N) → denotes eq (expanded eq fs) s n ≡ denotes eq fs s n
  denotes_kept fs Labels n = refl
  denotes_kept fs Locals n = refl
  denotes_kept fs Fields n = refl
  denotes_kept fs Functions n = look_kept fs Functions n
  denotes_kept fs Types n = look_kept fs Types n
  denotes_kept fs Tables n = look_kept fs Tables n
  denotes_kept fs Memories n = look_kept fs Memories n
  denotes_kept fs Globals n = look_kept fs Globals n
  denotes_kept fs Tags n = look_kept fs Tags n
  denotes_kept fs Datas n = look_kept fs Datas n
  denotes_kept fs Elems n = look_kept fs Elems n

  -- THE FIELDS OF TYPES
  only_types : (us : List (P × Sig N P)) → filter (λ b. same_space Types b.space) (map nameless_for us) ≡ map nameless_for us
  only_types [] = refl
  only_types (u ∷ us) = ap (λ l. nameless ∷ l) (only_types us)

  abbrev fields_in : Option (Bound N P) → List (Option (N × P))
  fields_in o = elim o [ Some b ↦ b.fields | None ↦ [] ]

  fields_past : (xs : List (Bound N P)) (us : List (P × Sig N P)) (k : ℕ) → fields_in (slice_get (xs ++ map nameless_for us) k) ≡ fields_in (slice_get xs k)
  fields_past [] [] k = refl
  fields_past [] (u ∷ us) zero = refl
  fields_past [] (u ∷ us) (suc k) = fields_past [] us k
  fields_past (x ∷ xs) us zero = refl
  fields_past (x ∷ xs) us (suc k) = fields_past xs us k

  pub fields_kept : (fs : List (Field N P)) (t : ℕ) → fields_at (expanded eq fs) t ≡ fields_at fs t
  fields_kept fs t =
      ap (λ l. fields_in (slice_get (filter (λ (b : Bound N P). same_space Types b.space) l) t)) (items_expanded fs)
      ∙ ap (λ l. fields_in (slice_get l t)) (filter-append (λ (b : Bound N P). same_space Types b.space) (flat_map items fs) (map nameless_for (implied eq fs)))
      ∙ ap (λ l. fields_in (slice_get (items_in Types fs ++ l) t)) (only_types (implied eq fs))
      ∙ fields_past (items_in Types fs) (implied eq fs) t

  -- HOW MANY ITEMS
  no_items : (s : Space) → same_space s Types ≡ false → (us : List (P × Sig N P)) → filter (λ b. same_space s b.space) (map nameless_for us) ≡ []
  no_items s e [] = refl
  no_items s e (u ∷ us) = ap (λ b. if b then nameless ∷ filter (λ (x : Bound N P). same_space s x.space) (map nameless_for us) else filter (λ (x : Bound N P). same_space s x.space) (map nameless_for us)) e ∙ no_items s e us

  count_kept : (fs : List (Field N P)) (s : Space) → same_space s Types ≡ false → length (items_in s (expanded eq fs)) ≡ length (items_in s fs)
  count_kept fs s e =
      ap (λ l. length (filter (λ (b : Bound N P). same_space s b.space) l)) (items_expanded fs)
      ∙ ap (λ l. length l) (filter-append (λ (b : Bound N P). same_space s b.space) (flat_map items fs) (map nameless_for (implied eq fs)))
      ∙ ap (λ l. length (items_in s fs ++ l)) (no_items s e (implied eq fs))
      ∙ ap (λ l. length l) (append-nil (items_in s fs))

  -- EACH USE HAS ITS TYPE, where the test of names is reflexive
  module _ (self : (n : N) → eq n n ≡ true) where
    there_so : (types : List (Option (Sig N P))) (us : List (P × Sig N P)) → list_all (there (taken_in eq (types_with eq types us))) us ≡ true
    there_so types [] = refl
    there_so types (u ∷ us) =
        both_true
        (ap (λ (o : Option ℕ). is_some o) (taken_so eq types u us (sig_self (same_written eq) (written_self eq self) u.1)))
        (ap (λ ts. list_all (there (taken_in eq ts)) us) (types_so eq types u us) ∙ there_so (types_after eq (taken_in eq types u.1) types u.1) us)

    pub all_there : (fs : List (Field N P)) → list_all (there (type_taken eq fs)) (flat_map used_sigs fs) ≡ true
    all_there fs =
        ap (λ is. list_all (there (taken_in eq (plain_types eq fs ++ map implied_sig is))) (flat_map used_sigs fs)) (implied_so eq fs) ∙ there_so (plain_types eq fs) (flat_map used_sigs fs)

    pub expanded_typed : (fs : List (Field N P)) → are_typed (expanded eq fs) ≡ true
    expanded_typed fs = both own_typed (taking_all (type_taken eq fs) fs) (map implied_field (implied eq fs)) (taken_typed (type_taken eq fs) fs (all_there fs)) (implied_typed (implied eq fs))

    pub expanded_implies_none : (fs : List (Field N P)) → implied eq (expanded eq fs) ≡ []
    expanded_implies_none fs = typed_implies_none (expanded eq fs) (expanded_typed fs)

    -- the function types
    pub sig_kept : (fs : List (Field N P)) (n : ℕ) → sig_at eq (expanded eq fs) n ≡ sig_at eq fs n
    sig_kept fs n =
        ap (λ l. option_and_then (λ s. s) (slice_get l n))
        (two (λ a b. a ++ map implied_sig b) (sigs_expanded fs) (expanded_implies_none fs) ∙ append-nil (sigs fs ++ implied_sigs eq fs))

    types_kept : (fs : List (Field N P)) → type_count eq (expanded eq fs) ≡ type_count eq fs
    types_kept fs =
        two (λ a b. a + b) (ap (λ l. length l) (written_expanded fs) ∙ length-append (flat_map written_types fs) (flat_map written_types (map implied_field (implied eq fs)))) (ap (λ l. length l) (expanded_implies_none fs))
        ∙ no_more (length (flat_map written_types fs)) (count_of_implied (implied eq fs))
      where
        no_more : (a : ℕ) {b c : ℕ} → b ≡ c → (a + b) + 0 ≡ a + c
        no_more a {b} {c} e = omega arith

    space_kept : (fs : List (Field N P)) (s : Space) → space_count eq (expanded eq fs) s ≡ space_count eq fs s
    space_kept fs Labels = count_kept fs Labels refl
    space_kept fs Locals = count_kept fs Locals refl
    space_kept fs Functions = count_kept fs Functions refl
    space_kept fs Types = types_kept fs
    space_kept fs Tables = count_kept fs Tables refl
    space_kept fs Memories = count_kept fs Memories refl
    space_kept fs Globals = count_kept fs Globals refl
    space_kept fs Tags = count_kept fs Tags refl
    space_kept fs Datas = count_kept fs Datas refl
    space_kept fs Elems = count_kept fs Elems refl
    space_kept fs Fields = count_kept fs Fields refl

    -- so the scope is the same
    pub scope_kept : (fs : List (Field N P)) → scope_of eq (expanded eq fs) ≡ scope_of eq fs
    scope_kept fs =
        let spaces : index_space eq (expanded eq fs) ≡ index_space eq fs = fun_ext (λ s. two (λ c l. record { count = c; look = l }) (space_kept fs s) (fun_ext (λ n. denotes_kept fs s n))) in
        let fields : (λ t. listed eq (fields_at (expanded eq fs) t)) ≡ (λ t. listed eq (fields_at fs t)) = fun_ext (λ t. ap (λ ids. listed eq ids) (fields_kept fs t)) in
        let sig_of : sig_at eq (expanded eq fs) ≡ sig_at eq fs = fun_ext (λ n. sig_kept fs n) in
        ap (λ v. record { spaces = v; fields = λ t. listed eq (fields_at (expanded eq fs) t); sig_of = sig_at eq (expanded eq fs); blocks = [] }) spaces
        ∙ ap (λ v. record { spaces = index_space eq fs; fields = v; sig_of = sig_at eq (expanded eq fs); blocks = [] }) fields
        ∙ ap (λ v. record { spaces = index_space eq fs; fields = λ t. listed eq (fields_at fs t); sig_of = v; blocks = [] }) sig_of
