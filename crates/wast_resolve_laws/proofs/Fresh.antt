-- Fresh names: which names are none of them, and what these mean among fields that are written out.
use Rattle.std.proofs.Common.{◌≡◌, ℕ, suc, ◌+◌, Bool, true, false, List, [], ◌∷◌, ◌++◌, map, Option, Some, None, cond, is_some, refl, sym, ◌∙◌, ap}
use Rattle.std.specs.Prelude.{◌&&◌, ◌||◌, not, if◌then◌else◌, filter, is_none, unwrap_or, option_to_list}
use Rattle.std.specs.List.{flat_map, list_any, list_all, position_from}
use Rattle.std.specs.Option.{option_or}
use Rattle.std.specs.Cmp.Derive.{both_true}
use Rattle.std.proofs.lemmas.Bool.{false≢true, not-true, or_left, or_right}
use Rattle.std.proofs.lemmas.List.{map-append, append-nil}
use Rattle.std.proofs.lemmas.List.Elements.{filter-append}
use Rattle.std.proofs.lemmas.List.Folds.{list_any-append}
use Rattle.std.proofs.lemmas.Grind.{flat_map-append}
use Rattle.wasm_encoder_base.specs.Table.{Space, Labels, Locals, Functions, Types, Tables, Memories, Globals, Tags, Datas, Elems, Fields}
use Rattle.wast_parser.specs.Identifiers.{Named}
use Rattle.wast_names.specs.Position.{bears, last_from}
use Rattle.wast_names.specs.Walk.{walked}
use Rattle.wast_names.specs.Demand.{Duplicate}
use Rattle.wast_names.specs.Space as names
use Rattle.wast_names.specs.Space.{last_counts, denoted}
use Rattle.wast_field_syntax.specs.FieldTree.{Definition, Field, TypeField, RecField, ImportField, Define, ExportField, StartField, ElemField, DataField, CustomField}
use Rattle.wast_meaning.specs.Written.{space_of_kind, kind_of, is_said, name_or, field_out, written_from, written_out, takes_name}
use Rattle.wast_meaning.specs.Spaces.{Bound, bound, same_space, space_word, bound_segment, items, ids_in, denotes}
use Rattle.wast_meaning.specs.Demands.{item_demand, spaces_after, item_demands}
use Rattle.wast_meaning.specs.Fresh.{taken_from, are_distinct, are_new}
use Rattle.wast_meaning.proofs.Settled.{left, right, two, front, back}
use Rattle.wast_meaning.proofs.Taken.{found}
use Rattle.wast_resolve_laws.proofs.Outlined.{id_out, items_out}
use Rattle.wast_resolve_laws.proofs.Unmet.{unmet, Alike, alike_joined, met_more}

pub same_self : (s : Space) → same_space s s ≡ true
same_self Labels = refl
same_self Locals = refl
same_self Functions = refl
same_self Types = refl
same_self Tables = refl
same_self Memories = refl
same_self Globals = refl
same_self Tags = refl
same_self Datas = refl
same_self Elems = refl
same_self Fields = refl

and_true : (b : Bool) → b ≡ (b && true)
and_true true = refl
and_true false = refl

free_or : (p : Option ℕ) (b : Bool) (n : ℕ) → is_none (option_or p (if b then Some n else None)) ≡ (is_none p && not b)
free_or None true n = refl
free_or None false n = refl
free_or (Some m) true n = refl
free_or (Some m) false n = refl

free_if : (p : Option ℕ) (b : Bool) (n : ℕ) → is_none (if b then Some n else p) ≡ (is_none p && not b)
free_if None true n = refl
free_if None false n = refl
free_if (Some m) true n = refl
free_if (Some m) false n = refl

abbrev freed : Bool → Bool → Bool → Bool
freed own before bears_it = if own then before && not bears_it else before

freed_true : (own before bears_it : Bool) → before ≡ true → not bears_it ≡ true → freed own before bears_it ≡ true
freed_true true before b h e = both_true h e
freed_true false before b h e = h

last_of : ℕ → List Bool → Option ℕ
last_of i [] = None
last_of i (b ∷ bs) = option_or (last_of (i + 1) bs) (if b then Some i else None)

module _ {N : Type 0} (eq : N → N → Bool) where
  -- a name is none of these
  abbrev pub unlike : List N → N → Bool
  unlike ts o = list_all (λ t. not (eq t o)) ts

  -- so fresh names are new where the others are none of them
  none_new : (t : N) (o : N) (os : List N) → not (list_any (eq t) (o ∷ os)) ≡ true → (not (eq t o) ≡ true) × (not (list_any (eq t) os) ≡ true)
  none_new t o os h = of (eq t o) (list_any (eq t) os) h
    where
      of : (a b : Bool) → not (a || b) ≡ true → (not a ≡ true) × (not b ≡ true)
      of true b h = elim (false≢true h) [ ]
      of false b h = (refl, h)

  first_new : (ts : List N) (o : N) (os : List N) → are_new eq ts (o ∷ os) ≡ true → unlike ts o ≡ true
  first_new [] o os h = refl
  first_new (t ∷ ts) o os h = both_true (none_new t o os (left (not (list_any (eq t) (o ∷ os))) (are_new eq ts (o ∷ os)) h)).0 (first_new ts o os (right (not (list_any (eq t) (o ∷ os))) (are_new eq ts (o ∷ os)) h))

  rest_new : (ts : List N) (o : N) (os : List N) → are_new eq ts (o ∷ os) ≡ true → are_new eq ts os ≡ true
  rest_new [] o os h = refl
  rest_new (t ∷ ts) o os h = both_true (none_new t o os (left (not (list_any (eq t) (o ∷ os))) (are_new eq ts (o ∷ os)) h)).1 (rest_new ts o os (right (not (list_any (eq t) (o ∷ os))) (are_new eq ts (o ∷ os)) h))

  pub all_unlike : (ts os : List N) → are_new eq ts os ≡ true → list_all (unlike ts) os ≡ true
  all_unlike ts [] h = refl
  all_unlike ts (o ∷ os) h = both_true (first_new ts o os h) (all_unlike ts os (rest_new ts o os h))

  first_unlike : (o : N) (b : Bool) (t : N) (ts : List N) → unlike (if b then t ∷ ts else ts) o ≡ true → b ≡ true → eq t o ≡ false
  first_unlike o true t ts h e = not-true (eq t o) (left (not (eq t o)) (unlike ts o) h)
  first_unlike o false t ts h e = elim (false≢true e) [ ]

  rest_unlike : (o : N) (b : Bool) (t : N) (ts : List N) → unlike (if b then t ∷ ts else ts) o ≡ true → unlike ts o ≡ true
  rest_unlike o true t ts h = right (not (eq t o)) (unlike ts o) h
  rest_unlike o false t ts h = h

  -- WHAT A NAME MEANS hangs on which items bear it
  first_seen : (o : N) (i : ℕ) (xs : List (Option N)) → position_from (bears eq o) i xs ≡ position_from (λ b. b) i (map (bears eq o) xs)
  first_seen o i [] = refl
  first_seen o i (x ∷ xs) = ap (λ p. cond (bears eq o x) (Some i) p) (first_seen o (i + 1) xs)

  last_seen : (o : N) (i : ℕ) (xs : List (Option N)) → last_from eq o i xs ≡ last_of i (map (bears eq o) xs)
  unfolding last_of
  last_seen o i [] = refl
  last_seen o i (x ∷ xs) = ap (λ p. option_or p (if bears eq o x then Some i else None)) (last_seen o (i + 1) xs)

  denoted_seen : (kind : List ℕ) (o : N) (xs ys : List (Option N)) → map (bears eq o) xs ≡ map (bears eq o) ys → denoted eq kind o xs ≡ denoted eq kind o ys
  denoted_seen kind o xs ys e =
      two (λ a b. if last_counts kind then a else b)
      (last_seen o 0 xs ∙ ap (last_of 0) e ∙ sym (last_seen o 0 ys)) (first_seen o 0 xs ∙ ap (position_from (λ b. b) 0) e ∙ sym (first_seen o 0 ys))

  -- and it means something where one does
  last_found : (o : N) (i : ℕ) (xs : List (Option N)) → list_any (bears eq o) xs ≡ true → is_some (last_from eq o i xs) ≡ true
  last_found o i [] h = elim (false≢true h) [ ]
  last_found o i (x ∷ xs) h = of (bears eq o x) (last_from eq o (i + 1) xs) (list_any (bears eq o) xs) h (last_found o (i + 1) xs)
    where
      of : (b : Bool) (p : Option ℕ) (c : Bool) → (b || c) ≡ true → (c ≡ true → is_some p ≡ true) → is_some (option_or p (if b then Some i else None)) ≡ true
      of true None c h k = refl
      of true (Some n) c h k = refl
      of false None c h k = elim (false≢true (k h)) [ ]
      of false (Some n) c h k = refl

  pub denoted_found : (kind : List ℕ) (o : N) (xs : List (Option N)) → list_any (bears eq o) xs ≡ true → is_some (denoted eq kind o xs) ≡ true
  denoted_found kind o xs h = of (last_counts kind)
    where
      of : (b : Bool) → is_some (if b then last_from eq o 0 xs else position_from (bears eq o) 0 xs) ≡ true
      of true = last_found o 0 xs h
      of false = found (bears eq o) 0 xs ∙ h

-- the names in an index space
module _ {N P : Type 0} where
  abbrev pub own_names : Space → List (Bound N P) → List (Option N)
  own_names s bs = map names.name_in (map (λ b. b.id) (filter (λ b. same_space s b.space) bs))

  pub own_joined : (s : Space) (xs ys : List (Bound N P)) → own_names s (xs ++ ys) ≡ own_names s xs ++ own_names s ys
  own_joined s xs ys =
      let own : Bound N P → Bool = λ b. same_space s b.space in
      ap (λ l. map names.name_in (map (λ (b : Bound N P). b.id) l)) (filter-append own xs ys)
      ∙ ap (λ l. map names.name_in l) (map-append (λ (b : Bound N P). b.id) (filter own xs) (filter own ys))
      ∙ map-append names.name_in (map (λ (b : Bound N P). b.id) (filter own xs)) (map (λ (b : Bound N P). b.id) (filter own ys))

module _ {N P : Type 0} (eq : N → N → Bool) where
  abbrev seen : N → Space → List (Bound N P) → List Bool
  seen o s bs = map (bears eq o) (own_names s bs)

  seen_joined : (o : N) (s : Space) (xs ys : List (Bound N P)) → seen o s (xs ++ ys) ≡ seen o s xs ++ seen o s ys
  seen_joined o s xs ys = ap (map (bears eq o)) (own_joined s xs ys) ∙ map-append (bears eq o) (own_names s xs) (own_names s ys)

  named_out : (o n : N) (p : P) (b : Bool) (id : Option (Named N P)) → ((b && not (is_some id)) ≡ true → eq n o ≡ false) →
      bears eq o (names.name_in (if b then Some (unwrap_or id (n, p)) else id)) ≡ bears eq o (names.name_in id)
  named_out o n p false id h = refl
  named_out o n p true None h = h refl
  named_out o n p true (Some i) h = refl

  seen_if : (o : N) (b : Bool) (x y : Bound N P) (rest : List (Bound N P)) → bears eq o (names.name_in x.id) ≡ bears eq o (names.name_in y.id) →
      map (bears eq o) (map names.name_in (map (λ b. b.id) (if b then x ∷ rest else rest))) ≡ map (bears eq o) (map names.name_in (map (λ b. b.id) (if b then y ∷ rest else rest)))
  seen_if o true x y rest e = ap (λ c. c ∷ map (bears eq o) (map names.name_in (map (λ (b : Bound N P). b.id) rest))) e
  seen_if o false x y rest e = refl

  seen_out : (o : N) (s : Space) (n : N) (f : Field N P) → (takes_name f ≡ true → eq n o ≡ false) → seen o s (flat_map items (field_out n f)) ≡ seen o s (items f)
  seen_out o s n (Define d) h =
      ap (seen o s) (items_out n d)
      ∙ seen_if o (same_space s (space_of_kind (kind_of d.defined))) (bound (space_of_kind (kind_of d.defined)) (id_out n d) d.given) (bound (space_of_kind (kind_of d.defined)) d.id d.given)
      (filter (λ b. same_space s b.space) (bound_segment d.defined)) (named_out o n d.place (is_said d) d.id h)
  seen_out o s n (TypeField t) h = ap (seen o s) (append-nil (items (TypeField t)))
  seen_out o s n (RecField r) h = ap (seen o s) (append-nil (items (RecField r)))
  seen_out o s n (ImportField i) h = ap (seen o s) (append-nil (items (ImportField i)))
  seen_out o s n (ExportField e) h = refl
  seen_out o s n (StartField x) h = refl
  seen_out o s n (ElemField e) h = ap (seen o s) (append-nil (items (ElemField e)))
  seen_out o s n (DataField d) h = ap (seen o s) (append-nil (items (DataField d)))
  seen_out o s n (CustomField x) h = refl

  seen_from : (o : N) (s : Space) (naming : ℕ → N) (k : ℕ) (fs : List (Field N P)) → unlike eq (taken_from naming k fs) o ≡ true → seen o s (flat_map items (written_from naming k fs)) ≡ seen o s (flat_map items fs)
  seen_from o s naming k [] h = refl
  seen_from o s naming k (f ∷ fs) h =
      ap (seen o s) (flat_map-append items (field_out (naming k) f) (written_from naming (suc k) fs))
      ∙ seen_joined o s (flat_map items (field_out (naming k) f)) (flat_map items (written_from naming (suc k) fs))
      ∙ two (λ a b. a ++ b)
      (seen_out o s (naming k) f (first_unlike eq o (takes_name f) (naming k) (taken_from naming (suc k) fs) h))
      (seen_from o s naming (suc k) fs (rest_unlike eq o (takes_name f) (naming k) (taken_from naming (suc k) fs) h))
      ∙ sym (seen_joined o s (items f) (flat_map items fs))

  look_written : (naming : ℕ → N) (fs : List (Field N P)) (s : Space) (o : N) → unlike eq (taken_from naming 0 fs) o ≡ true →
      denoted eq (space_word s) o (map names.name_in (ids_in s (written_out naming fs))) ≡ denoted eq (space_word s) o (map names.name_in (ids_in s fs))
  look_written naming fs s o h = denoted_seen eq (space_word s) o (map names.name_in (ids_in s (written_out naming fs))) (map names.name_in (ids_in s fs)) (seen_from o s naming 0 fs h)

  -- a name that isn't made means the same
  pub denotes_written : (naming : ℕ → N) (fs : List (Field N P)) (s : Space) (o : N) → unlike eq (taken_from naming 0 fs) o ≡ true → denotes eq (written_out naming fs) s o ≡ denotes eq fs s o
  denotes_written naming fs Labels o h = refl
  denotes_written naming fs Locals o h = refl
  denotes_written naming fs Fields o h = refl
  denotes_written naming fs Functions o h = look_written naming fs Functions o h
  denotes_written naming fs Types o h = look_written naming fs Types o h
  denotes_written naming fs Tables o h = look_written naming fs Tables o h
  denotes_written naming fs Memories o h = look_written naming fs Memories o h
  denotes_written naming fs Globals o h = look_written naming fs Globals o h
  denotes_written naming fs Tags o h = look_written naming fs Tags o h
  denotes_written naming fs Datas o h = look_written naming fs Datas o h
  denotes_written naming fs Elems o h = look_written naming fs Elems o h

  -- THE NAME THAT IS SAID OF A DEFINITION means an item
  abbrev pub OwnFound : (Space → N → Type 0) → N → Field N P → Type 0
  OwnFound Found n (Define d) = is_said d ≡ true → Found (space_of_kind (kind_of d.defined)) (name_or n d).0
  OwnFound Found n f = Unit {0}

  abbrev pub AllFound : (Space → N → Type 0) → (ℕ → N) → ℕ → List (Field N P) → Type 0
  AllFound Found naming k [] = Unit {0}
  AllFound Found naming k (f ∷ fs) = OwnFound Found (naming k) f × AllFound Found naming (suc k) fs

  abbrev has : Space → N → List (Bound N P) → Bool
  has s o bs = list_any (bears eq o) (own_names s bs)

  module _ (self : (n : N) → eq n n ≡ true) (Found : Space → N → Type 0) where
    has_first : (s : Space) (id : Named N P) (given : Option (List ℕ)) (rest : List (Bound N P)) → has s id.0 (bound s (Some id) given ∷ rest) ≡ true
    has_first s id given rest =
        ap (λ b. list_any (bears eq id.0) (map names.name_in (map (λ (x : Bound N P). x.id) (if b then bound s (Some id) given ∷ filter (λ (x : Bound N P). same_space s x.space) rest else filter (λ (x : Bound N P). same_space s x.space) rest)))) (same_self s)
        ∙ ap (λ b. b || has s id.0 rest) (self id.0)

    said_first : (n : N) (d : Definition N P) → is_said d ≡ true → has (space_of_kind (kind_of d.defined)) (name_or n d).0 (bound (space_of_kind (kind_of d.defined)) (id_out n d) d.given ∷ bound_segment d.defined) ≡ true
    said_first n d e =
        ap (λ b. has (space_of_kind (kind_of d.defined)) (name_or n d).0 (bound (space_of_kind (kind_of d.defined)) (if b then Some (name_or n d) else d.id) d.given ∷ bound_segment d.defined)) e
        ∙ has_first (space_of_kind (kind_of d.defined)) (name_or n d) d.given (bound_segment d.defined)

    has_joined : (s : Space) (o : N) (xs ys : List (Bound N P)) → has s o (xs ++ ys) ≡ (has s o xs || has s o ys)
    has_joined s o xs ys = ap (list_any (bears eq o)) (own_joined s xs ys) ∙ list_any-append (bears eq o) (own_names s xs) (own_names s ys)

    found_out : (n : N) (f : Field N P) → ((s : Space) (o : N) → has s o (flat_map items (field_out n f)) ≡ true → Found s o) → OwnFound Found n f
    found_out n (Define d) h = λ e. h (space_of_kind (kind_of d.defined)) (name_or n d).0 (ap (has (space_of_kind (kind_of d.defined)) (name_or n d).0) (items_out n d) ∙ said_first n d e)
    found_out n (TypeField t) h = tt
    found_out n (RecField r) h = tt
    found_out n (ImportField i) h = tt
    found_out n (ExportField e) h = tt
    found_out n (StartField x) h = tt
    found_out n (ElemField e) h = tt
    found_out n (DataField d) h = tt
    found_out n (CustomField x) h = tt

    pub all_found : (naming : ℕ → N) (k : ℕ) (fs : List (Field N P)) → ((s : Space) (o : N) → has s o (flat_map items (written_from naming k fs)) ≡ true → Found s o) → AllFound Found naming k fs
    all_found naming k [] h = tt
    all_found naming k (f ∷ fs) h = (
      found_out (naming k) f (λ s o e. h s o (split s o ∙ or_left (has s o (flat_map items (field_out (naming k) f))) (has s o (flat_map items (written_from naming (suc k) fs))) e)),
      all_found naming (suc k) fs (λ s o e. h s o (split s o ∙ or_right (has s o (flat_map items (field_out (naming k) f))) (has s o (flat_map items (written_from naming (suc k) fs))) e)),
    )
      where
        split : (s : Space) (o : N) → has s o (flat_map items (written_from naming k (f ∷ fs))) ≡ (has s o (flat_map items (field_out (naming k) f)) || has s o (flat_map items (written_from naming (suc k) fs)))
        split s o = ap (has s o) (flat_map-append items (field_out (naming k) f) (written_from naming (suc k) fs)) ∙ has_joined s o (flat_map items (field_out (naming k) f)) (flat_map items (written_from naming (suc k) fs))

-- NAMES OF ITEMS that no two may bear
module _ {N : Type 0} (eq : N → N → Bool) (self : (n : N) → eq n n ≡ true) (sound : (m n : N) → eq m n ≡ true → m ≡ n) (fresh : List N) where
  abbrev Spaces : Type 0
  Spaces = Space → names.Space N

  abbrev free : Spaces → Space → N → Bool
  free spaces s o = is_none ((spaces s).look o)

  free_more : (last : Bool) (space : names.Space N) (item : Option N) (o : N) → is_none ((if last then names.grown_last eq space item else names.grown eq space item).look o) ≡ (is_none (space.look o) && not (bears eq o item))
  free_more true space None o = and_true (is_none (space.look o))
  free_more false space None o = and_true (is_none (space.look o))
  free_more true space (Some m) o = free_if (space.look o) (eq m o) space.count
  free_more false space (Some m) o = free_or (space.look o) (eq m o) space.count

  -- spaces in which the same names are free, but for the fresh ones, of which those to come are free
  abbrev Likewise : Spaces → Spaces → Type 0
  Likewise new old = (s : Space) (o : N) → unlike eq fresh o ≡ true → free new s o ≡ free old s o

  abbrev Ahead : List N → Spaces → Type 0
  Ahead ts new = (s : Space) → list_all (free new s) ts ≡ true

  -- the test both ways
  turned : (m t : N) → eq t m ≡ false → eq m t ≡ false
  turned m t e = of (eq m t) refl
    where
      of : (b : Bool) → eq m t ≡ b → b ≡ false
      of false k = refl
      of true k = elim (false≢true (sym e ∙ ap (λ x. eq t x) (sound m t k) ∙ self t)) [ ]

  all_turned : (ts : List N) (m : N) → unlike eq ts m ≡ true → list_all (λ t. not (eq m t)) ts ≡ true
  all_turned [] m h = refl
  all_turned (t ∷ ts) m h = both_true (ap not (turned m t (not-true (eq t m) (left (not (eq t m)) (unlike eq ts m) h)))) (all_turned ts m (right (not (eq t m)) (unlike eq ts m) h))

  none_among : (t : N) (ts : List N) → not (list_any (eq t) ts) ≡ true → list_all (λ u. not (eq t u)) ts ≡ true
  none_among t [] h = refl
  none_among t (u ∷ ts) h = both_true (none_new eq t u ts h).0 (none_among t ts (none_new eq t u ts h).1)

  abbrev unborne : Option N → N → Bool
  unborne item t = not (bears eq t item)

  none_bear : (ts : List N) → list_all (unborne None) ts ≡ true
  none_bear [] = refl
  none_bear (t ∷ ts) = none_bear ts

  abbrev Within : List N → Type 0
  Within ts = (o : N) → unlike eq fresh o ≡ true → unlike eq ts o ≡ true

  rest_distinct : (b : Bool) (t : N) (ts : List N) → are_distinct eq (if b then t ∷ ts else ts) ≡ true → are_distinct eq ts ≡ true
  rest_distinct true t ts h = right (not (list_any (eq t) ts)) (are_distinct eq ts) h
  rest_distinct false t ts h = h

  all_free : (ts : List N) → list_all (λ (t : N). is_none {T = ℕ} None) ts ≡ true
  all_free [] = refl
  all_free (t ∷ ts) = all_free ts

  module _ {P : Type 0} where
    free_after : (spaces : Spaces) (b : Bound N P) (s : Space) (o : N) → free (spaces_after eq spaces b) s o ≡ freed (same_space s b.space) (free spaces s o) (bears eq o (names.name_in b.id))
    free_after spaces b s o = of (same_space s b.space)
      where
        of : (own : Bool) → is_none ((if own then names.after_item eq (space_word s) (spaces s) b.id else spaces s).look o) ≡ freed own (free spaces s o) (bears eq o (names.name_in b.id))
        of true = free_more (last_counts (space_word s)) (spaces s) (names.name_in b.id) o
        of false = refl

    abbrev Goes : List N → List (Bound N P) → List (Bound N P) → Type 0
    Goes ts xs ys = (new old : Spaces) → Likewise new old → Ahead ts new → Alike (walked (item_demand eq) (spaces_after eq) new xs) (walked (item_demand eq) (spaces_after eq) old ys)

    likewise_after : (new old : Spaces) (b : Bound N P) → Likewise new old → Likewise (spaces_after eq new b) (spaces_after eq old b)
    likewise_after new old b h s o e = free_after new b s o ∙ ap (λ x. freed (same_space s b.space) x (bears eq o (names.name_in b.id))) (h s o e) ∙ sym (free_after old b s o)

    ahead_after : (new : Spaces) (b : Bound N P) (s : Space) (ts : List N) → list_all (free new s) ts ≡ true → list_all (unborne (names.name_in b.id)) ts ≡ true → list_all (free (spaces_after eq new b) s) ts ≡ true
    ahead_after new b s [] h e = refl
    ahead_after new b s (t ∷ ts) h e =
        both_true
        (free_after new b s t
        ∙ freed_true (same_space s b.space) (free new s t) (bears eq t (names.name_in b.id)) (left (free new s t) (list_all (free new s) ts) h) (left (unborne (names.name_in b.id) t) (list_all (unborne (names.name_in b.id)) ts) e))
        (ahead_after new b s ts (right (free new s t) (list_all (free new s) ts) h) (right (unborne (names.name_in b.id) t) (list_all (unborne (names.name_in b.id)) ts) e))

    -- items with names that aren't fresh
    abbrev id_names : Option (Named N P) → List N
    id_names o = map (λ id. id.0) (option_to_list o)

    abbrev item_names : Bound N P → List N
    item_names b = id_names b.id

    old_unborne : (ts : List N) → Within ts → (id : Option (Named N P)) → list_all (unlike eq fresh) (id_names id) ≡ true → list_all (unborne (names.name_in id)) ts ≡ true
    old_unborne ts within None h = none_bear ts
    old_unborne ts within (Some i) h = all_turned ts i.0 (within i.0 (left (unlike eq fresh i.0) true h))

    fresh_same : (kind : List ℕ) (new old : Spaces) (s : Space) → Likewise new old → (id : Option (Named N P)) → list_all (unlike eq fresh) (id_names id) ≡ true → names.fresh kind (new s) id ≡ names.fresh kind (old s) id
    fresh_same kind new old s like None h = refl
    fresh_same kind new old s like (Some i) h = ap (λ b. if last_counts kind then [] else record { place = i.1; complaint = Duplicate kind; holds = b } ∷ []) (like s i.0 (left (unlike eq fresh i.0) true h))

    same_items : (ts : List N) → Within ts → (xs rest others : List (Bound N P)) → list_all (unlike eq fresh) (flat_map item_names xs) ≡ true → Goes ts rest others → Goes ts (xs ++ rest) (xs ++ others)
    same_items ts within [] rest others h goes = goes
    same_items ts within (b ∷ xs) rest others h goes = λ new old like ahead.
        alike_joined (item_demand eq new b) (walked (item_demand eq) (spaces_after eq) (spaces_after eq new b) (xs ++ rest)) (item_demand eq old b) (walked (item_demand eq) (spaces_after eq) (spaces_after eq old b) (xs ++ others))
        (ap (λ l. unmet (l ++ names.distinct eq (space_word Fields) b.fields)) (fresh_same (space_word b.space) new old b.space like b.id (front (unlike eq fresh) (item_names b) (flat_map item_names xs) h)))
        (same_items ts within xs rest others (back (unlike eq fresh) (item_names b) (flat_map item_names xs) h) goes (spaces_after eq new b) (spaces_after eq old b) (likewise_after new old b like)
        (λ s. ahead_after new b s ts (ahead s) (old_unborne ts within b.id (front (unlike eq fresh) (item_names b) (flat_map item_names xs) h))))

    -- an item with a fresh name
    met_there : (kind : List ℕ) (space other : names.Space N) (id : Named N P) → is_none (space.look id.0) ≡ true → Alike (names.fresh kind space (Some id) ++ []) (names.fresh {N = N} {P = P} kind other None ++ [])
    met_there kind space other id h = of (last_counts kind)
      where
        of : (c : Bool) → Alike ((if c then [] else names.is_free kind space id ∷ []) ++ []) ((if c then [] else []) ++ [])
        of true = refl
        of false = met_more (names.is_free kind space id) h

    renamed : (t : N) (ts : List N) (p : P) (s : Space) (given : Option (List ℕ)) (rest others : List (Bound N P)) → ((o : N) → unlike eq fresh o ≡ true → eq t o ≡ false) → not (list_any (eq t) ts) ≡ true →
        Goes ts rest others → Goes (t ∷ ts) (bound s (Some (t, p)) given ∷ rest) (bound s None given ∷ others)
    renamed t ts p s given rest others apart distinct goes = λ new old like ahead.
        let b : Bound N P = bound s (Some (t, p)) given in
        let c : Bound N P = bound s None given in
        alike_joined (item_demand eq new b) (walked (item_demand eq) (spaces_after eq) (spaces_after eq new b) rest) (item_demand eq old c) (walked (item_demand eq) (spaces_after eq) (spaces_after eq old c) others)
        (met_there (space_word s) (new s) (old s) (t, p) (left (free new s t) (list_all (free new s) ts) (ahead s)))
        (goes (spaces_after eq new b) (spaces_after eq old c)
        (λ x o e. free_after new b x o ∙ two (λ y z. freed (same_space x s) y z) (like x o e) (apart o e) ∙ sym (free_after old c x o))
        (λ x. ahead_after new b x ts (right (free new x t) (list_all (free new x) ts) (ahead x)) (none_among t ts distinct)))

    definition_goes : (b : Bool) (id : Option (Named N P)) (n : N) (p : P) (s : Space) (given : Option (List ℕ)) (segment rest others : List (Bound N P)) (ts : List N) →
        Within (if b && not (is_some id) then n ∷ ts else ts) → are_distinct eq (if b && not (is_some id) then n ∷ ts else ts) ≡ true →
        list_all (unlike eq fresh) (flat_map item_names (bound s id given ∷ segment)) ≡ true → Goes ts rest others →
        Goes (if b && not (is_some id) then n ∷ ts else ts) ((bound s (if b then Some (unwrap_or id (n, p)) else id) given ∷ segment) ++ rest) ((bound s id given ∷ segment) ++ others)
    definition_goes false id n p s given segment rest others ts within distinct h goes = same_items ts within (bound s id given ∷ segment) rest others h goes
    definition_goes true (Some i) n p s given segment rest others ts within distinct h goes = same_items ts within (bound s (Some i) given ∷ segment) rest others h goes
    definition_goes true None n p s given segment rest others ts within distinct h goes =
        renamed n ts p s given (segment ++ rest) (segment ++ others) (λ o e. not-true (eq n o) (left (not (eq n o)) (unlike eq ts o) (within o e))) (left (not (list_any (eq n) ts)) (are_distinct eq ts) distinct)
        (same_items ts (λ o e. right (not (eq n o)) (unlike eq ts o) (within o e)) segment rest others h goes)

    abbrev field_item_names : Field N P → List N
    field_item_names f = flat_map item_names (items f)

    goes_out : (naming : ℕ → N) (k : ℕ) (fs : List (Field N P)) → Within (taken_from naming k fs) → are_distinct eq (taken_from naming k fs) ≡ true → list_all (unlike eq fresh) (flat_map field_item_names fs) ≡ true →
        Goes (taken_from naming k fs) (flat_map items (written_from naming k fs)) (flat_map items fs)
    goes_out naming k [] within distinct h = λ new old like ahead. refl
    goes_out naming k (f ∷ fs) within distinct h =
        by_field f within distinct (front (unlike eq fresh) (field_item_names f) (flat_map field_item_names fs) h)
        (goes_out naming (suc k) fs (λ o e. rest_unlike eq o (takes_name f) (naming k) (taken_from naming (suc k) fs) (within o e)) (rest_distinct (takes_name f) (naming k) (taken_from naming (suc k) fs) distinct)
        (back (unlike eq fresh) (field_item_names f) (flat_map field_item_names fs) h))
      where
        by_field : (g : Field N P) → Within (if takes_name g then naming k ∷ (taken_from naming (suc k) fs) else (taken_from naming (suc k) fs)) → are_distinct eq (if takes_name g then naming k ∷ (taken_from naming (suc k) fs) else (taken_from naming (suc k) fs)) ≡ true → list_all (unlike eq fresh) (field_item_names g) ≡ true → Goes (taken_from naming (suc k) fs) (flat_map items (written_from naming (suc k) fs)) (flat_map items fs) →
            Goes (if takes_name g then naming k ∷ (taken_from naming (suc k) fs) else (taken_from naming (suc k) fs)) (flat_map items (field_out (naming k) g ++ written_from naming (suc k) fs)) (items g ++ flat_map items fs)
        by_field (Define d) w e o goes = λ new old like ahead.
            ap (λ xs. unmet (walked (item_demand eq) (spaces_after eq) new xs)) (flat_map-append items (field_out (naming k) (Define d)) (written_from naming (suc k) fs) ∙ ap (λ l. l ++ (flat_map items (written_from naming (suc k) fs))) (items_out (naming k) d))
            ∙ definition_goes (is_said d) d.id (naming k) d.place (space_of_kind (kind_of d.defined)) d.given (bound_segment d.defined) (flat_map items (written_from naming (suc k) fs)) (flat_map items fs) (taken_from naming (suc k) fs) w e o goes new old like ahead
        by_field (TypeField t) w e o goes = same_items (taken_from naming (suc k) fs) w (items (TypeField t)) (flat_map items (written_from naming (suc k) fs)) (flat_map items fs) o goes
        by_field (RecField r) w e o goes = same_items (taken_from naming (suc k) fs) w (items (RecField r)) (flat_map items (written_from naming (suc k) fs)) (flat_map items fs) o goes
        by_field (ImportField i) w e o goes = same_items (taken_from naming (suc k) fs) w (items (ImportField i)) (flat_map items (written_from naming (suc k) fs)) (flat_map items fs) o goes
        by_field (ExportField x) w e o goes = goes
        by_field (StartField x) w e o goes = goes
        by_field (ElemField x) w e o goes = same_items (taken_from naming (suc k) fs) w (items (ElemField x)) (flat_map items (written_from naming (suc k) fs)) (flat_map items fs) o goes
        by_field (DataField x) w e o goes = same_items (taken_from naming (suc k) fs) w (items (DataField x)) (flat_map items (written_from naming (suc k) fs)) (flat_map items fs) o goes
        by_field (CustomField x) w e o goes = goes

    pub items_demanded : (naming : ℕ → N) (fs : List (Field N P)) → Within (taken_from naming 0 fs) → are_distinct eq (taken_from naming 0 fs) ≡ true → list_all (unlike eq fresh) (flat_map field_item_names fs) ≡ true →
        Alike (item_demands eq (flat_map items (written_out naming fs))) (item_demands eq (flat_map items fs))
    items_demanded naming fs within distinct h = goes_out naming 0 fs within distinct h (λ s. names.empty) (λ s. names.empty) (λ s o e. refl) (λ s. all_free (taken_from naming 0 fs))
