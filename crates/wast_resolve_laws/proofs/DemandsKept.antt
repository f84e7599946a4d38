-- Fields that have their types, with the implied types behind them, keep to what the fields keep to: the first demand that isn't met is the same.
use Rattle.std.proofs.Common.{◌≡◌, ℕ, Bool, true, false, List, [], ◌∷◌, ◌++◌, map, Option, Some, None, refl, sym, ◌∙◌, ap, append_assoc}
use Rattle.std.specs.Prelude.{not, if◌then◌else◌, filter, filter_map, unwrap_or, option_map}
use Rattle.std.specs.List.{flat_map, list_all}
use Rattle.std.specs.Cmp.Derive.{both_true}
use Rattle.std.proofs.lemmas.List.{append-nil}
use Rattle.std.proofs.lemmas.Grind.{flat_map-append}
use Rattle.std.proofs.lemmas.List.Folds.{flat_map-map}
use Rattle.wasm_encoder_base.specs.Table.{Space, Types, Locals}
use Rattle.wast_parser.specs.Identifiers.{Named, Reference, ByNumber}
use Rattle.wast_names.specs.Walk.{walked, first_unmet}
use Rattle.wast_names.specs.Demand.{Demand, is_met}
use Rattle.wast_names.specs.Space as names
use Rattle.wast_names.specs.Space.{last_counts}
use Rattle.wast_signatures.specs.TypeTree.{Local, Sig, TypeUse}
use Rattle.wast_core_instr.specs.InstructionTree.{Instruction}
use Rattle.wast_field_syntax.specs.FieldTree.{Function, Field, field_place}
use Rattle.wast_meaning.specs.Mentions.{Mention, Refers, Member, Uses, UsesInBlock, Repeats, Part, Says, Constant, Body, val_mentions, local_mentions, sig_mentions, instr_mentions, expr_mentions, parts, part_mentions, field_mentions}
use Rattle.wast_meaning.specs.Spaces.{Bound, space_word, items}
use Rattle.wast_meaning.specs.Implied.{no_sig, is_short, sig_of_use, sig_of_mention, used_sigs, written_types, plain_sig, unnamed_local, unnamed, implied, type_taken}
use Rattle.wast_meaning.specs.Scope.{Scope, scope_of, with_locals, scope_at, params_of, params_of_index, locals_of}
use Rattle.wast_meaning.specs.Demands.{nearest, order_demand, order_demands, item_demand, spaces_after, item_demands, agreement, says_demands, use_demands, mention_demands, instr_demands, instrs_demands, func_demands, part_demands, field_demands, demands}
use Rattle.wast_meaning.specs.Changed.{sig_changed, instr_changed, instrs_changed, func_changed}
use Rattle.wast_meaning.specs.Numbered.{taken_index, taken_unless_short, taking, with_types, implied_field, expanded}
use Rattle.wast_meaning.proofs.Settled.{left, right, two, front, back}
use Rattle.wast_resolve_laws.proofs.Changes.{use_with, part_changed, parts_so}
use Rattle.wast_resolve_laws.proofs.Kept.{order_kept, nearest_kept, SameLabels, labels_more, scope_at_kept}
use Rattle.wast_resolve_laws.proofs.Taking.{all_taking, said, instr_said, inline_same, locals_same, sig_says, both}
use Rattle.wast_resolve_laws.proofs.Expanded.{taking_all, nameless_for, items_expanded, scope_kept}
use Rattle.wast_resolve_laws.proofs.Taken.{Fits, taken_fits}
use Rattle.wast_resolve_laws.proofs.Unmet.{unmet, Alike, alike_joined, met_more, first_same}
use Rattle.wast_resolve_laws.proofs.Sigs.{at_place, unplaced, implied_pass}

none_either : {A : Type 0} (b : Bool) → ◌≡◌ {A = List A} (if b then [] else []) []
none_either true = refl
none_either false = refl

pub filtered : {A : Type 0} (q keep : A → Bool) (xs : List A) → list_all q xs ≡ true → list_all q (filter keep xs) ≡ true
filtered q keep [] e = refl
filtered q keep (x ∷ xs) e = by_case (keep x) (filtered q keep xs (right (q x) (list_all q xs) e))
  where
    by_case : (b : Bool) → list_all q (filter keep xs) ≡ true → list_all q (if b then x ∷ filter keep xs else filter keep xs) ≡ true
    by_case true rest = both_true (left (q x) (list_all q xs) e) rest
    by_case false rest = rest

pub unnamed_mentions : {N P : Type 0} (ls : List (Local N P)) → local_mentions (map unnamed_local ls) ≡ local_mentions ls
unnamed_mentions [] = refl
unnamed_mentions (l ∷ ls) = ap (λ ms. val_mentions l.val_type ++ ms) (unnamed_mentions ls)

-- THE ORDER OF IMPORTS, AND NAMES OF ITEMS: the same demands
module _ {N P : Type 0} where
  order_of_implied : (before : Option Space) (us : List (P × Sig N P)) → walked order_demand nearest before (map implied_field us) ≡ []
  order_of_implied before [] = refl
  order_of_implied before (u ∷ us) = order_of_implied before us

  order_so : (taken : Sig N P → Option ℕ) (us : List (P × Sig N P)) (before : Option Space) (fs : List (Field N P)) →
      walked order_demand nearest before (taking_all taken fs ++ map implied_field us) ≡ walked order_demand nearest before fs
  order_so taken us before [] = order_of_implied before us
  order_so taken us before (f ∷ fs) =
      two (λ a b. a ++ b) (order_kept (all_taking taken (field_place f)) before f)
      (ap (λ b. walked order_demand nearest b (taking_all taken fs ++ map implied_field us)) (nearest_kept (all_taking taken (field_place f)) before f) ∙ order_so taken us (nearest before f) fs)

module _ {N P : Type 0} (eq : N → N → Bool) where
  items_of_implied : (spaces : Space → names.Space N) (us : List (P × Sig N P)) → walked (item_demand eq) (spaces_after eq) spaces (map nameless_for us) ≡ []
  items_of_implied spaces [] = refl
  items_of_implied spaces (u ∷ us) =
      two (λ a b. (a ++ []) ++ b) (none_either (last_counts (space_word Types))) (items_of_implied (spaces_after eq spaces (nameless_for u)) us)

  items_so : (spaces : Space → names.Space N) (bs : List (Bound N P)) (us : List (P × Sig N P)) →
      walked (item_demand eq) (spaces_after eq) spaces (bs ++ map nameless_for us) ≡ walked (item_demand eq) (spaces_after eq) spaces bs
  items_so spaces [] us = items_of_implied spaces us
  items_so spaces (b ∷ bs) us = ap (λ l. item_demand eq spaces b ++ l) (items_so (spaces_after eq spaces b) bs us)

-- USES THAT TAKE A TYPE: one more demand at most, which is met
module _ {N P : Type 0} (eq : N → N → Bool) (taken : Sig N P → Option ℕ) (p : P) where
  abbrev number : ℕ → Reference N P
  number n = ByNumber n p

  more_met : (s : Scope N P) → Fits taken s → (o : Option (Sig N P)) (t : Option ℕ) → taken (unwrap_or o no_sig) ≡ t → Alike (use_demands eq s (use_with (option_map number t) o)) (use_demands eq s (use_with None o))
  more_met s fits o None e = refl
  more_met s fits None (Some n) e = refl
  more_met s fits (Some sig) (Some n) e =
      alike_joined (flat_map (says_demands eq s) (sig_mentions sig ++ [])) (agreement s (number n) sig ∷ []) (flat_map (says_demands eq s) (sig_mentions sig ++ [])) []
      refl (met_more (agreement s (number n) sig) (fits.agreed sig n e))

  use_taken : (s : Scope N P) → Fits taken s → (i : Option (Reference N P)) (o : Option (Sig N P)) →
      Alike (use_demands eq s (use_with (elim i [ Some j ↦ Some j | None ↦ option_map number (taken (unwrap_or o no_sig)) ]) o)) (use_demands eq s (use_with i o))
  use_taken s fits (Some j) o = refl
  use_taken s fits None o = more_met s fits o (taken (unwrap_or o no_sig)) refl

  block_taken : (s : Scope N P) → Fits taken s → (short : Bool) (i : Option (Reference N P)) (o : Option (Sig N P)) →
      Alike (use_demands eq s (use_with (if short then i else elim i [ Some j ↦ Some j | None ↦ option_map number (taken (unwrap_or o no_sig)) ]) o)) (use_demands eq s (use_with i o))
  block_taken s fits true i o = refl
  block_taken s fits false i o = use_taken s fits i o

  abbrev use_alike : (s : Scope N P) → TypeUse N P → Option (Reference N P) → Type 0
  use_alike s u i = Alike (use_demands eq s (use_with i (option_map (sig_changed (taking taken p)) u.inline))) (use_demands eq s u)

  with_inline : (s : Scope N P) (u : TypeUse N P) (i : Option (Reference N P)) → Alike (use_demands eq s (use_with i u.inline)) (use_demands eq s u) → use_alike s u i
  with_inline s u i h = ap (λ o. unmet (use_demands eq s (use_with i o))) (inline_same taken p u.inline) ∙ h

  use_so : (s : Scope N P) → Fits taken s → (u : TypeUse N P) → use_alike s u (taken_index taken p u)
  use_so s fits u = with_inline s u (taken_index taken p u) (use_taken s fits u.index u.inline)

  mention_so : (s : Scope N P) → Fits taken s → (m : Mention N P) → Alike (mention_demands eq s (said taken p m)) (mention_demands eq s m)
  mention_so s fits (Refers space i) = refl
  mention_so s fits (Member t i) = refl
  mention_so s fits (Repeats id) = refl
  mention_so s fits (Uses u) = use_so s fits u
  mention_so s fits (UsesInBlock u) = with_inline s u (taken_unless_short taken p u) (block_taken s fits (is_short (unwrap_or u.inline no_sig)) u.index u.inline)

  mentions_so : (s : Scope N P) → Fits taken s → (ms : List (Mention N P)) → Alike (flat_map (mention_demands eq s) (map (said taken p) ms)) (flat_map (mention_demands eq s) ms)
  mentions_so s fits [] = refl
  mentions_so s fits (m ∷ ms) =
      alike_joined (mention_demands eq s (said taken p m)) (flat_map (mention_demands eq s) (map (said taken p) ms)) (mention_demands eq s m) (flat_map (mention_demands eq s) ms)
      (mention_so s fits m) (mentions_so s fits ms)

  -- INSTRUCTIONS, one after the other
  here : (s : Scope N P) (before : List (Instruction N P)) (i : Instruction N P) → Fits taken s → Fits taken (scope_at eq s before i)
  here s before i fits = record { agreed = fits.agreed; bare = fits.bare }

  inside : (s : Scope N P) (ids : List (Option (Named N P))) → Fits taken s → Fits taken (with_locals eq s ids)
  inside s ids fits = record { agreed = fits.agreed; bare = fits.bare }

  instr_so : (s : Scope N P) → Fits taken s → (new old : List (Instruction N P)) → SameLabels new old → (i : Instruction N P) → Alike (instr_demands eq s new (instr_changed (taking taken p) i)) (instr_demands eq s old i)
  instr_so s fits new old e i =
      ap (λ t. unmet (flat_map (mention_demands eq t) (instr_mentions (instr_changed (taking taken p) i)))) (scope_at_kept eq s (taking taken p) i new old e)
      ∙ ap (λ ms. unmet (flat_map (mention_demands eq (scope_at eq s old i)) ms)) (instr_said taken p i)
      ∙ mentions_so (scope_at eq s old i) (here s old i fits) (instr_mentions i)

  instrs_so : (s : Scope N P) → Fits taken s → (given new old : List (Instruction N P)) → SameLabels new old → (is : List (Instruction N P)) →
      Alike (instrs_demands eq s new (instrs_changed (λ before i. taking taken p) given is)) (instrs_demands eq s old is)
  instrs_so s fits given new old e [] = refl
  instrs_so s fits given new old e (i ∷ is) =
      alike_joined (instr_demands eq s new (instr_changed (taking taken p) i)) (instrs_demands eq s (instr_changed (taking taken p) i ∷ new) (instrs_changed (λ before j. taking taken p) (i ∷ given) is))
      (instr_demands eq s old i) (instrs_demands eq s (i ∷ old) is)
      (instr_so s fits new old e i) (instrs_so s fits (i ∷ given) (instr_changed (taking taken p) i ∷ new) (i ∷ old) (labels_more (taking taken p) i new old e) is)

  -- FUNCTIONS
  bare_params : (s : Scope N P) → Fits taken s → (t : Option ℕ) → taken no_sig ≡ t → params_of_index s (option_map number t) ≡ []
  bare_params s fits None e = refl
  bare_params s fits (Some n) e = ap (λ ps. map (λ (l : Local N P). None) ps) (fits.bare n e)

  params_taken : (s : Scope N P) → Fits taken s → (i : Option (Reference N P)) (o : Option (Sig N P)) →
      params_of s (use_with (elim i [ Some j ↦ Some j | None ↦ option_map number (taken (unwrap_or o no_sig)) ]) o) ≡ params_of s (use_with i o)
  params_taken s fits i (Some sig) = refl
  params_taken s fits (Some j) None = refl
  params_taken s fits None None = bare_params s fits (taken no_sig) refl

  locals_so : (s : Scope N P) → Fits taken s → (f : Function N P) → locals_of s (func_changed (all_taking taken p) f) ≡ locals_of s f
  locals_so s fits f =
      two (λ o ls. params_of s (use_with (taken_index taken p f.type_use) o) ++ map (λ (l : Local N P). l.id) ls) (inline_same taken p f.type_use.inline) (locals_same taken p f.locals)
      ∙ ap (λ ids. ids ++ map (λ (l : Local N P). l.id) f.locals) (params_taken s fits f.type_use.index f.type_use.inline)

  func_so : (s : Scope N P) → Fits taken s → (f : Function N P) → Alike (func_demands eq s (func_changed (all_taking taken p) f)) (func_demands eq s f)
  func_so s fits f =
      let new = func_changed (all_taking taken p) f in
      let body_changed = instrs_changed (λ before i. taking taken p) [] f.body.instrs in
      ap (λ ids. unmet (use_demands eq s new.type_use ++ flat_map (mention_demands eq s) (local_mentions new.locals) ++ names.distinct eq (space_word Locals) ids ++ instrs_demands eq (with_locals eq s ids) [] body_changed)) (locals_so s fits f)
      ∙ alike_joined
      (use_demands eq s new.type_use ++ flat_map (mention_demands eq s) (local_mentions new.locals) ++ names.distinct eq (space_word Locals) (locals_of s f)) (instrs_demands eq (with_locals eq s (locals_of s f)) [] body_changed)
      (use_demands eq s f.type_use ++ flat_map (mention_demands eq s) (local_mentions f.locals) ++ names.distinct eq (space_word Locals) (locals_of s f)) (instrs_demands eq (with_locals eq s (locals_of s f)) [] f.body.instrs)
      (alike_joined
      (use_demands eq s new.type_use ++ flat_map (mention_demands eq s) (local_mentions new.locals)) (names.distinct eq (space_word Locals) (locals_of s f))
      (use_demands eq s f.type_use ++ flat_map (mention_demands eq s) (local_mentions f.locals)) (names.distinct eq (space_word Locals) (locals_of s f))
      (alike_joined
      (use_demands eq s new.type_use) (flat_map (mention_demands eq s) (local_mentions new.locals)) (use_demands eq s f.type_use) (flat_map (mention_demands eq s) (local_mentions f.locals))
      (use_so s fits f.type_use) (ap (λ ls. unmet (flat_map (mention_demands eq s) (local_mentions ls))) (locals_same taken p f.locals)))
      refl)
      (instrs_so (with_locals eq s (locals_of s f)) (inside s (locals_of s f) fits) [] [] [] refl f.body.instrs)

  part_so : (s : Scope N P) → Fits taken s → (x : Part N P) → Alike (part_demands eq s (part_changed (all_taking taken p) x)) (part_demands eq s x)
  part_so s fits (Says m) = mention_so s fits m
  part_so s fits (Constant e) = instrs_so s fits [] [] [] refl e.instrs
  part_so s fits (Body f) = func_so s fits f

  all_parts : (s : Scope N P) → Fits taken s → (xs : List (Part N P)) → Alike (flat_map (part_demands eq s) (map (part_changed (all_taking taken p)) xs)) (flat_map (part_demands eq s) xs)
  all_parts s fits [] = refl
  all_parts s fits (x ∷ xs) =
      alike_joined (part_demands eq s (part_changed (all_taking taken p) x)) (flat_map (part_demands eq s) (map (part_changed (all_taking taken p)) xs)) (part_demands eq s x) (flat_map (part_demands eq s) xs)
      (part_so s fits x) (all_parts s fits xs)

  field_so : (s : Scope N P) → Fits taken s → (f : Field N P) → Alike (field_demands eq s (with_types taken p f)) (field_demands eq s f)
  field_so s fits f = ap (λ xs. unmet (flat_map (part_demands eq s) xs)) (parts_so (all_taking taken p) f) ∙ all_parts s fits (parts f)

-- TYPES THAT ARE IMPLIED: their names are those of the use that implies them
module _ {N P : Type 0} (eq : N → N → Bool) where
  fields_so : (taken : Sig N P → Option ℕ) (s : Scope N P) → Fits taken s → (fs : List (Field N P)) → Alike (flat_map (field_demands eq s) (taking_all taken fs)) (flat_map (field_demands eq s) fs)
  fields_so taken s fits [] = refl
  fields_so taken s fits (f ∷ fs) =
      alike_joined (field_demands eq s (with_types taken (field_place f) f)) (flat_map (field_demands eq s) (taking_all taken fs)) (field_demands eq s f) (flat_map (field_demands eq s) fs)
      (field_so eq taken (field_place f) s fits f) (fields_so taken s fits fs)

  -- what a signature says is known in a space of types
  abbrev known_types : names.Space N → Mention N P → List (Demand N P)
  known_types space (Refers s i) = names.known (space_word Types) space i
  known_types space m = []

  abbrev told : names.Space N → Sig N P → Bool
  told space t = list_all is_met (flat_map (known_types space) (sig_mentions t))

  told_here : (s : Scope N P) (t : Sig N P) → list_all is_met (flat_map (says_demands eq s) (sig_mentions t)) ≡ told (s.spaces Types) t
  told_here s t = ap (λ ds. list_all is_met ds) (sig_says (says_demands eq s) (known_types (s.spaces Types)) (λ i. refl) t)

  use_told : (s : Scope N P) (i : Option (Reference N P)) (o : Option (Sig N P)) → list_all is_met (use_demands eq s (record { index = i; inline = o })) ≡ true → list_all (told (s.spaces Types)) (sig_of_use (record { index = i; inline = o })) ≡ true
  use_told s (Some j) o e = refl
  use_told s None None e = refl
  use_told s None (Some t) e =
      both_true
      (sym (told_here s t)
      ∙ ap (λ ms. list_all is_met (flat_map (says_demands eq s) ms)) (sym (append-nil (sig_mentions t)))
      ∙ front is_met (flat_map (says_demands eq s) (sig_mentions t ++ [])) [] e) refl

  mention_told : (s : Scope N P) (m : Mention N P) → list_all is_met (mention_demands eq s m) ≡ true → list_all (told (s.spaces Types)) (sig_of_mention m) ≡ true
  mention_told s (Refers space i) e = refl
  mention_told s (Member t i) e = refl
  mention_told s (Repeats id) e = refl
  mention_told s (Uses u) e = use_told s u.index u.inline e
  mention_told s (UsesInBlock u) e = filtered (told (s.spaces Types)) (λ t. not (is_short t)) (sig_of_use u) (use_told s u.index u.inline e)

  mentions_told : (s : Scope N P) (ms : List (Mention N P)) → list_all is_met (flat_map (mention_demands eq s) ms) ≡ true → list_all (told (s.spaces Types)) (flat_map sig_of_mention ms) ≡ true
  mentions_told s [] e = refl
  mentions_told s (m ∷ ms) e =
      both (told (s.spaces Types)) (sig_of_mention m) (flat_map sig_of_mention ms) (mention_told s m (front is_met (mention_demands eq s m) (flat_map (mention_demands eq s) ms) e))
      (mentions_told s ms (back is_met (mention_demands eq s m) (flat_map (mention_demands eq s) ms) e))

  abbrev own_asked : Scope N P → List (Instruction N P) → Instruction N P → List (Demand N P)
  own_asked s before i = flat_map (mention_demands eq (scope_at eq s before i)) (instr_mentions i)

  instrs_told : (s : Scope N P) (before is : List (Instruction N P)) → list_all is_met (instrs_demands eq s before is) ≡ true → list_all (told (s.spaces Types)) (flat_map sig_of_mention (flat_map instr_mentions is)) ≡ true
  instrs_told s before [] e = refl
  instrs_told s before (i ∷ is) e =
      ap (λ l. list_all (told (s.spaces Types)) l) (flat_map-append sig_of_mention (instr_mentions i) (flat_map instr_mentions is))
      ∙ both (told (s.spaces Types)) (flat_map sig_of_mention (instr_mentions i)) (flat_map sig_of_mention (flat_map instr_mentions is))
      (mentions_told (scope_at eq s before i) (instr_mentions i) (front is_met (own_asked s before i) (instrs_demands eq s (i ∷ before) is) e))
      (instrs_told s (i ∷ before) is (back is_met (own_asked s before i) (instrs_demands eq s (i ∷ before) is) e))

  func_told : (s : Scope N P) (f : Function N P) → list_all is_met (func_demands eq s f) ≡ true → list_all (told (s.spaces Types)) (flat_map sig_of_mention (Uses f.type_use ∷ local_mentions f.locals ++ expr_mentions f.body)) ≡ true
  func_told s f e =
      let use_part = use_demands eq s f.type_use in
      let local_part = flat_map (mention_demands eq s) (local_mentions f.locals) in
      let name_part = names.distinct eq (space_word Locals) (locals_of s f) in
      let body_part = instrs_demands eq (with_locals eq s (locals_of s f)) [] f.body.instrs in
      let before_body = front is_met (use_part ++ local_part ++ name_part) body_part e in
      let before_names = front is_met (use_part ++ local_part) name_part before_body in
      both (told (s.spaces Types)) (sig_of_use f.type_use) (flat_map sig_of_mention (local_mentions f.locals ++ expr_mentions f.body))
      (use_told s f.type_use.index f.type_use.inline (front is_met use_part local_part before_names))
      (ap (λ l. list_all (told (s.spaces Types)) l) (flat_map-append sig_of_mention (local_mentions f.locals) (expr_mentions f.body))
      ∙ both (told (s.spaces Types)) (flat_map sig_of_mention (local_mentions f.locals)) (flat_map sig_of_mention (expr_mentions f.body))
      (mentions_told s (local_mentions f.locals) (back is_met use_part local_part before_names))
      (instrs_told (with_locals eq s (locals_of s f)) [] f.body.instrs (back is_met (use_part ++ local_part ++ name_part) body_part e)))

  part_told : (s : Scope N P) (x : Part N P) → list_all is_met (part_demands eq s x) ≡ true → list_all (told (s.spaces Types)) (flat_map sig_of_mention (part_mentions x)) ≡ true
  part_told s (Says m) e = both (told (s.spaces Types)) (sig_of_mention m) [] (mention_told s m e) refl
  part_told s (Constant x) e = instrs_told s [] x.instrs e
  part_told s (Body f) e = func_told s f e

  parts_told : (s : Scope N P) (xs : List (Part N P)) → list_all is_met (flat_map (part_demands eq s) xs) ≡ true → list_all (told (s.spaces Types)) (flat_map sig_of_mention (flat_map part_mentions xs)) ≡ true
  parts_told s [] e = refl
  parts_told s (x ∷ xs) e =
      ap (λ l. list_all (told (s.spaces Types)) l) (flat_map-append sig_of_mention (part_mentions x) (flat_map part_mentions xs))
      ∙ both (told (s.spaces Types)) (flat_map sig_of_mention (part_mentions x)) (flat_map sig_of_mention (flat_map part_mentions xs))
      (part_told s x (front is_met (part_demands eq s x) (flat_map (part_demands eq s) xs) e)) (parts_told s xs (back is_met (part_demands eq s x) (flat_map (part_demands eq s) xs) e))

  uses_told : (s : Scope N P) (fs : List (Field N P)) → list_all is_met (flat_map (field_demands eq s) fs) ≡ true → list_all (at_place (told (s.spaces Types))) (flat_map used_sigs fs) ≡ true
  uses_told s [] e = refl
  uses_told s (f ∷ fs) e =
      both (at_place (told (s.spaces Types))) (used_sigs f) (flat_map used_sigs fs)
      (unplaced (told (s.spaces Types)) (field_place f) (flat_map sig_of_mention (field_mentions f)) ∙ parts_told s (parts f) (front is_met (field_demands eq s f) (flat_map (field_demands eq s) fs) e))
      (uses_told s fs (back is_met (field_demands eq s f) (flat_map (field_demands eq s) fs) e))

  unnamed_told : (space : names.Space N) (t : Sig N P) → told space (unnamed t) ≡ told space t
  unnamed_told space t = ap (λ ms. list_all is_met (flat_map (known_types space) (ms ++ flat_map val_mentions t.results))) (unnamed_mentions t.params)

  implied_met : (s : Scope N P) (us : List (P × Sig N P)) → list_all (at_place (told (s.spaces Types))) us ≡ true → list_all is_met (flat_map (field_demands eq s) (map implied_field us)) ≡ true
  implied_met s [] e = refl
  implied_met s (u ∷ us) e =
      both is_met (field_demands eq s (implied_field u)) (flat_map (field_demands eq s) (map implied_field us))
      (ap (λ ds. list_all is_met ds) (flat_map-map (part_demands eq s) (λ m. Says m) (sig_mentions u.1) ∙ sig_says (mention_demands eq s) (known_types (s.spaces Types)) (λ i. refl) u.1)
      ∙ left (told (s.spaces Types) u.1) (list_all (at_place (told (s.spaces Types))) us) e)
      (implied_met s us (right (told (s.spaces Types) u.1) (list_all (at_place (told (s.spaces Types))) us) e))

  -- ALL DEMANDS
  module _ (self : (n : N) → eq n n ≡ true) (sound : (m n : N) → eq m n ≡ true → m ≡ n) where
    pub demands_kept : (fs : List (Field N P)) → first_unmet is_met (demands eq (expanded eq fs)) ≡ first_unmet is_met (demands eq fs)
    demands_kept fs =
        let s = scope_of eq fs in
        let orders = order_demands fs in
        let names_of = item_demands eq (flat_map items fs) in
        let own = flat_map (field_demands eq s) (taking_all (type_taken eq fs) fs) in
        let more = flat_map (field_demands eq s) (map implied_field (implied eq fs)) in
        ap (λ ds. first_unmet is_met (ds ++ item_demands eq (flat_map items (expanded eq fs)) ++ flat_map (field_demands eq (scope_of eq (expanded eq fs))) (expanded eq fs))) (order_so (type_taken eq fs) (implied eq fs) None fs)
        ∙ ap (λ ds. first_unmet is_met (orders ++ ds ++ flat_map (field_demands eq (scope_of eq (expanded eq fs))) (expanded eq fs)))
        (ap (item_demands eq) (items_expanded eq fs) ∙ items_so eq (λ x. names.empty) (flat_map items fs) (implied eq fs))
        ∙ ap (λ t. first_unmet is_met (orders ++ names_of ++ flat_map (field_demands eq t) (expanded eq fs))) (scope_kept eq self fs)
        ∙ ap (λ ds. first_unmet is_met (orders ++ names_of ++ ds)) (flat_map-append (field_demands eq s) (taking_all (type_taken eq fs) fs) (map implied_field (implied eq fs)))
        ∙ ap (λ ds. first_unmet is_met ds) (sym (append_assoc (orders ++ names_of) own more))
        ∙ first_same (orders ++ names_of ++ own) (demands eq fs) more
        (alike_joined (orders ++ names_of) own (orders ++ names_of) (flat_map (field_demands eq s) fs) refl (fields_so (type_taken eq fs) s (taken_fits eq sound fs) fs))
        (λ e. implied_met s (implied eq fs) (implied_pass (told (s.spaces Types)) eq (unnamed_told (s.spaces Types)) (filter_map plain_sig (flat_map written_types fs)) (flat_map used_sigs fs) (uses_told s fs (back is_met (orders ++ names_of) (flat_map (field_demands eq s) fs) e))))
