-- What is gathered is what the definitions say of a module's types.
use Rattle.std.proofs.Common.{◌≡◌, ℕ, ◌+◌, List, [], ◌∷◌, ◌++◌, Option, Some, None, Bool, true, false, ◌||◌, cond, length, map, refl, sym, ◌∙◌, ap, arith, append_assoc, is_some}
use Rattle.std.specs.Prelude.{if◌then◌else◌, filter_map, option_map}
use Rattle.std.specs.List.{flat_map, list_any, position_from, cons_option}
use Rattle.std.specs.Option.{option_or}
use Rattle.std.proofs.lemmas.List.{append-nil, map-append, length-map, length-append}
use Rattle.wast_grammar.specs.Tokens.{Name}
use Rattle.wast_parser.specs.Spelling.{same_name}
use Rattle.wast_signatures.specs.TypeTree.{Sig, TypeItem}
use Rattle.wast_module_fields.specs.FieldTree.{Field}
use Rattle.wast_names.specs.Walk.{reached}
use Rattle.wast_names.specs.Position.{bears}
use Rattle.wast_names.specs.Space.{Space, empty, grown}
use Rattle.wast_names.proofs.Walk.{reached_append}
use Rattle.wast_names.proofs.Positions.{first_so, counted_first}
use Rattle.wast_meaning.specs.Implied.{same_option, same_written, same_sig, plain_sig, written_types, used_sigs, unnamed, implied_by, implied, implied_sigs, type_taken, type_count}
use Rattle.wast_implied.specs.Shapes.{Shape, same_shape, shape}
use Rattle.wast_implied.specs.Known.{Known, nothing, after_written, unless_taken, after_use, after_field, gathered}
use Rattle.wast_implied.proofs.Same.{sigs_alike, symmetric, shape_unnamed}

abbrev same : Sig Name ℕ → Sig Name ℕ → Bool
same = same_sig (same_written same_name)

abbrev shapes : List (Option (Sig Name ℕ)) → List (Option Shape)
shapes xs = map (option_map shape) xs

-- the space of types of which some are plain function types
abbrev among : List (Option (Sig Name ℕ)) → Space Shape
among xs = reached (grown same_shape) empty (shapes xs)

-- WHERE A SIGNATURE STANDS
found : (s : Sig Name ℕ) (o : Option (Sig Name ℕ)) → bears same_shape (shape s) (option_map shape o) ≡ same_option same (Some s) o
found s None = refl
found s (Some t) = symmetric (shape t) (shape s) ∙ sym (sigs_alike s t)

position_map : {A B : Type 0} (f : B → Bool) (g : A → Bool) (to : A → B) → ((a : A) → f (to a) ≡ g a) → (i : ℕ) (xs : List A) → position_from f i (map to xs) ≡ position_from g i xs
position_map f g to h i [] = refl
position_map f g to h i (x ∷ xs) =
    ap (λ b. cond b (Some i) (position_from f (i + 1) (map to xs))) (h x) ∙ ap (λ r. cond (g x) (Some i) r) (position_map f g to h (i + 1) xs)

some_position : {A : Type 0} (f : A → Bool) (i : ℕ) (xs : List A) → is_some (position_from f i xs) ≡ list_any f xs
some_position f i [] = refl
some_position f i (x ∷ xs) =
    elim (f x) as (λ b. is_some (cond b (Some i) (position_from f (i + 1) xs)) ≡ (b || list_any f xs)) [
      | true ↦ refl
      | false ↦ some_position f (i + 1) xs
    ]

pub look_among : (xs : List (Option (Sig Name ℕ))) (s : Sig Name ℕ) → (among xs).look (shape s) ≡ position_from (same_option same (Some s)) 0 xs
look_among xs s = first_so same_shape empty (shapes xs) (shape s) ∙ position_map (bears same_shape (shape s)) (same_option same (Some s)) (option_map shape) (found s) 0 xs

pub count_among : (xs : List (Option (Sig Name ℕ))) → (among xs).count ≡ length xs
count_among xs = counted_first same_shape empty (shapes xs) ∙ omega (arith, length-map xs (option_map shape))

any_some : {A : Type 0} (to : A → Option (Sig Name ℕ)) (s : Sig Name ℕ) (xs : List A) → list_any (same_option same (Some s)) (map to xs) ≡ list_any (same s) (filter_map to xs)
any_some to s [] = refl
any_some to s (x ∷ xs) =
    elim (to x) as (λ o. (same_option same (Some s) o || list_any (same_option same (Some s)) (map to xs)) ≡ list_any (same s) (cons_option o (filter_map to xs))) [
      | None ↦ any_some to s xs
      | Some t ↦ ap (λ b. same s t || b) (any_some to s xs)
    ]

-- WRITTEN TYPES
written_so : (k : Known) (ts : List (TypeItem Name ℕ × Bool)) → reached after_written k ts ≡ record { types = reached (grown same_shape) k.types (shapes (map plain_sig ts)); implied = k.implied }
written_so k [] = refl
written_so k (t ∷ ts) = written_so (after_written k t) ts

-- USES
-- the signatures that have a number
abbrev Knows : List (Sig Name ℕ) → Known → Type 0
Knows have k = (s : Sig Name ℕ) → is_some (k.types.look (shape s)) ≡ list_any (same s) have

some_or : (o : Option ℕ) (b : Bool) (n : ℕ) → is_some (option_or o (if b then Some n else None)) ≡ (b || is_some o)
some_or None true n = refl
some_or None false n = refl
some_or (Some m) true n = refl
some_or (Some m) false n = refl

knows_more : (have : List (Sig Name ℕ)) (k : Known) (u : ℕ × Sig Name ℕ) → Knows have k → Knows (u.1 ∷ have) (unless_taken None k u)
knows_more have k u h s =
    some_or (k.types.look (shape s)) (same_shape (shape u.1) (shape s)) k.types.count
    ∙ ap (λ b. b || is_some (k.types.look (shape s))) (symmetric (shape u.1) (shape s) ∙ sym (sigs_alike s u.1)) ∙ ap (λ b. same s u.1 || b) (h s)

abbrev later : Known → List (ℕ × Sig Name ℕ) → Known
later k new = record { types = reached (grown same_shape) k.types (shapes (map (λ n. Some n.1) new)); implied = k.implied ++ new }

uses_so : (have : List (Sig Name ℕ)) (k : Known) (us : List (ℕ × Sig Name ℕ)) → Knows have k → reached after_use k us ≡ later k (implied_by same_name have us)
uses_so have k [] h = λ i. record { types = k.types; implied = sym (append-nil k.implied) i }
uses_so have k (u ∷ us) h = by_case (k.types.look (shape u.1)) (list_any (same u.1) have) refl refl (uses_so have k us h) (uses_so (u.1 ∷ have) (unless_taken None k u) us (knows_more have k u h))
  where
    rest : Bool → List (ℕ × Sig Name ℕ)
    rest b = elim b [
      | true ↦ implied_by same_name have us
      | false ↦ (u.0, unnamed u.1) ∷ implied_by same_name (u.1 ∷ have) us
    ]

    one_more : (new : List (ℕ × Sig Name ℕ)) → later (unless_taken None k u) new ≡ later k ((u.0, unnamed u.1) ∷ new)
    one_more new = λ i. record {
      types = reached (grown same_shape) (grown same_shape k.types (Some (sym (shape_unnamed u.1) i))) (shapes (map (λ n. Some n.1) new));
      implied = append_assoc k.implied ((u.0, unnamed u.1) ∷ []) new i;
    }

    wrong : (o : Option ℕ) (b : Bool) → k.types.look (shape u.1) ≡ o → list_any (same u.1) have ≡ b → is_some o ≡ b
    wrong o b e p = sym (ap is_some e) ∙ h u.1 ∙ p

    by_case : (o : Option ℕ) (b : Bool) → k.types.look (shape u.1) ≡ o → list_any (same u.1) have ≡ b
        → reached after_use k us ≡ later k (implied_by same_name have us)
        → reached after_use (unless_taken None k u) us ≡ later (unless_taken None k u) (implied_by same_name (u.1 ∷ have) us)
        → reached after_use (unless_taken o k u) us ≡ later k (rest b)
    by_case (Some n) true e p known new = known
    by_case None false e p known new = new ∙ one_more (implied_by same_name (u.1 ∷ have) us)
    by_case (Some n) false e p known new = let never : true ≡ false = wrong (Some n) false e p in absurd (cc)
    by_case None true e p known new = let never : false ≡ true = wrong None true e p in absurd (cc)

-- FIELDS
reached_flat : {S X Y : Type 0} (after : S → Y → S) (to : X → List Y) (s : S) (xs : List X) → reached (λ t x. reached after t (to x)) s xs ≡ reached after s (flat_map to xs)
reached_flat after to s [] = refl
reached_flat after to s (x ∷ xs) = reached_flat after to (reached after s (to x)) xs ∙ sym (reached_append after s (to x) (flat_map to xs))

abbrev all_types : List (Field Name ℕ) → List (Option (Sig Name ℕ))
all_types fs = map plain_sig (flat_map written_types fs) ++ implied_sigs same_name fs

knows_written : (fs : List (Field Name ℕ)) → Knows (filter_map plain_sig (flat_map written_types fs)) (record { types = among (map plain_sig (flat_map written_types fs)); implied = [] })
knows_written fs s =
    let xs = map plain_sig (flat_map written_types fs) in
    ap is_some (look_among xs s) ∙ some_position (same_option same (Some s)) 0 xs ∙ any_some plain_sig s (flat_map written_types fs)

pub gathered_is : (fs : List (Field Name ℕ)) → gathered fs ≡ record { types = among (all_types fs); implied = implied same_name fs }
gathered_is fs =
    let ts = flat_map written_types fs in
    let xs = map plain_sig ts in
    let have = filter_map plain_sig ts in
    let first : Known = record { types = among xs; implied = [] } in
    ap (λ k. reached after_field k fs) (reached_flat after_written written_types nothing fs ∙ written_so nothing ts)
    ∙ reached_flat after_use used_sigs first fs
    ∙ uses_so have first (flat_map used_sigs fs) (knows_written fs)
    ∙ (λ i. record {
      types = sym (reached_append (grown same_shape) empty (shapes xs) (shapes (implied_sigs same_name fs)) ∙ refl) i;
      implied = implied same_name fs;
    })
    ∙ (λ i. record {
      types = reached (grown same_shape) empty (sym (map-append (option_map shape) xs (implied_sigs same_name fs)) i);
      implied = implied same_name fs;
    })

-- THE THREE FACTS
pub implied_is : (fs : List (Field Name ℕ)) → (gathered fs).implied ≡ implied same_name fs
implied_is fs = ap (λ (k : Known). k.implied) (gathered_is fs)

pub taken_is : (fs : List (Field Name ℕ)) (s : Sig Name ℕ) → (gathered fs).types.look (shape s) ≡ type_taken same_name fs s
taken_is fs s = ap (λ (k : Known). k.types.look (shape s)) (gathered_is fs) ∙ look_among (all_types fs) s

pub count_is : (fs : List (Field Name ℕ)) → (gathered fs).types.count ≡ type_count same_name fs
count_is fs =
    ap (λ (k : Known). k.types.count) (gathered_is fs) ∙ count_among (all_types fs)
    ∙ length-append (map plain_sig (flat_map written_types fs)) (implied_sigs same_name fs)
    ∙ omega (arith, length-map (flat_map written_types fs) plain_sig, length-map (implied same_name fs) (λ s. Some s.1))
