-- The implied types, one use after the other: a use takes the first type that is at hand and its own, else the next number.
use Rattle.std.proofs.Common.{◌≡◌, ℕ, ◌+◌, suc, Bool, true, false, List, [], ◌∷◌, ◌++◌, length, map, Option, Some, None, cond, is_some, refl, sym, ◌∙◌, ap, arith, append_assoc}
use Rattle.std.specs.Prelude.{◌&&◌, ◌||◌, filter_map}
use Rattle.std.specs.Option.{option_or}
use Rattle.std.specs.List.{cons_option, flat_map, list_any, position_from}
use Rattle.std.specs.Cmp.Lexicographic.{pointwise}
use Rattle.std.proofs.lemmas.List.Folds.{list_any-append}
use Rattle.wast_parser.specs.Identifiers.{Reference}
use Rattle.wast_field_syntax.specs.TypeTree.{Local, Sig, TypeItem}
use Rattle.wast_field_syntax.specs.FieldTree.{Field}
use Rattle.wast_meaning.specs.Implied.{same_local, same_val, same_sig, same_option, same_written, unnamed_local, unnamed, used_sigs, written_types, plain_sig, implied_by, implied}

-- names of parameters make no difference
module _ {N P : Type 0} (same : Reference N P → Reference N P → Bool) where
  same_params : (xs ys : List (Local N P)) → pointwise (same_local same) xs (map unnamed_local ys) ≡ pointwise (same_local same) xs ys
  same_params [] [] = refl
  same_params [] (y ∷ ys) = refl
  same_params (x ∷ xs) [] = refl
  same_params (x ∷ xs) (y ∷ ys) = ap (λ b. same_local same x y && b) (same_params xs ys)

  pub same_unnamed : (s t : Sig N P) → same_sig same s (unnamed t) ≡ same_sig same s t
  same_unnamed s t = ap (λ b. b && pointwise (same_val same) s.results t.results) (same_params s.params t.params)

module _ {A : Type 0} (f : A → Bool) where
  is_some_cond : (b : Bool) (i : ℕ) (o : Option ℕ) → is_some (cond b (Some i) o) ≡ (b || is_some o)
  is_some_cond true i o = refl
  is_some_cond false i o = refl

  pub found : (i : ℕ) (xs : List A) → is_some (position_from f i xs) ≡ list_any f xs
  found i [] = refl
  found i (x ∷ xs) = is_some_cond (f x) i (position_from f (i + 1) xs) ∙ ap (λ b. f x || b) (found (i + 1) xs)

  or_cond : (b : Bool) (i : ℕ) (o p : Option ℕ) → cond b (Some i) (option_or o p) ≡ option_or (cond b (Some i) o) p
  or_cond true i o p = refl
  or_cond false i o p = refl

  -- in two lists joined
  pub found_joined : (i : ℕ) (xs ys : List A) → position_from f i (xs ++ ys) ≡ option_or (position_from f i xs) (position_from f (i + length xs) ys)
  found_joined i [] ys = ap (λ n. position_from f n ys) (let e : i ≡ i + 0 = omega arith in e)
  found_joined i (x ∷ xs) ys =
      ap (λ o. cond (f x) (Some i) o) (found_joined (i + 1) xs ys ∙ ap (λ n. option_or (position_from f (i + 1) xs) (position_from f n ys)) (let e : (i + 1) + length xs ≡ i + suc (length xs) = omega arith in e))
      ∙ or_cond (f x) i (position_from f (i + 1) xs) (position_from f (i + suc (length xs)) ys)

or_swap : (a b : Bool) → (a || (b || false)) ≡ (b || a)
or_swap true true = refl
or_swap true false = refl
or_swap false true = refl
or_swap false false = refl

-- the number that a use takes as it comes is that among all types
abbrev pub number_or : Option ℕ → ℕ → ℕ
number_or None next = next
number_or (Some n) next = n

module _ {N P : Type 0} (eq : N → N → Bool) where
  abbrev pub takes : Sig N P → Option (Sig N P) → Bool
  takes s t = same_option (same_sig (same_written eq)) (Some s) t

  -- the number of the first type that a signature may take
  abbrev pub taken_in : List (Option (Sig N P)) → Sig N P → Option ℕ
  taken_in types s = position_from (takes s) 0 types

  -- the types at hand after a use, and what a use adds
  abbrev pub types_after : Option ℕ → List (Option (Sig N P)) → Sig N P → List (Option (Sig N P))
  types_after None types s = types ++ Some (unnamed s) ∷ []
  types_after (Some n) types s = types

  abbrev pub added : Option ℕ → P × Sig N P → List (P × Sig N P)
  added None u = (u.0, unnamed u.1) ∷ []
  added (Some n) u = []

  -- what uses add to the types at hand, one after the other
  abbrev pub all_added : List (Option (Sig N P)) → List (P × Sig N P) → List (P × Sig N P)
  all_added types [] = []
  all_added types (u ∷ us) = added (taken_in types u.1) u ++ all_added (types_after (taken_in types u.1) types u.1) us

  abbrev pub Knows : List (Sig N P) → List (Option (Sig N P)) → Type 0
  Knows have types = (s : Sig N P) → list_any (same_sig (same_written eq) s) have ≡ is_some (taken_in types s)

  knows_more : (have : List (Sig N P)) (types : List (Option (Sig N P))) (s : Sig N P) → Knows have types → Knows (s ∷ have) (types ++ Some (unnamed s) ∷ [])
  knows_more have types s h t =
      ap (λ b. same_sig (same_written eq) t s || b) (h t ∙ found (takes t) 0 types)
      ∙ sym (found (takes t) 0 (types ++ Some (unnamed s) ∷ [])
      ∙ list_any-append (takes t) types (Some (unnamed s) ∷ [])
      ∙ ap (λ b. list_any (takes t) types || (b || false)) (same_unnamed (same_written eq) t s)
      ∙ or_swap (list_any (takes t) types) (same_sig (same_written eq) t s))

  pub added_so : (have : List (Sig N P)) (types : List (Option (Sig N P))) (us : List (P × Sig N P)) → Knows have types → implied_by eq have us ≡ all_added types us
  added_so have types [] h = refl
  added_so have types (u ∷ us) h =
      by_case (taken_in types u.1) (h u.1) (λ k. added_so (u.1 ∷ have) (types ++ Some (unnamed u.1) ∷ []) us k) (added_so have types us h)
    where
      by_case : (o : Option ℕ) → list_any (same_sig (same_written eq) u.1) have ≡ is_some o
          → (Knows (u.1 ∷ have) (types ++ Some (unnamed u.1) ∷ []) → implied_by eq (u.1 ∷ have) us ≡ all_added (types ++ Some (unnamed u.1) ∷ []) us)
          → implied_by eq have us ≡ all_added types us
          → implied_by eq have (u ∷ us) ≡ added o u ++ all_added (types_after o types u.1) us
      by_case None e more same =
          ap (λ b. elim b [ true ↦ implied_by eq have us | false ↦ (u.0, unnamed u.1) ∷ implied_by eq (u.1 ∷ have) us ]) e
          ∙ ap (λ v. (u.0, unnamed u.1) ∷ v) (more (knows_more have types u.1 h))
      by_case (Some n) e more same =
          ap (λ b. elim b [ true ↦ implied_by eq have us | false ↦ (u.0, unnamed u.1) ∷ implied_by eq (u.1 ∷ have) us ]) e ∙ same

  -- at first the plain types are at hand
  abbrev pub plain_types : List (Field N P) → List (Option (Sig N P))
  plain_types fs = map plain_sig (flat_map written_types fs)

  any_cons : (o : Option (Sig N P)) (s : Sig N P) (ss : List (Sig N P)) → list_any (same_sig (same_written eq) s) (cons_option o ss) ≡ (takes s o || list_any (same_sig (same_written eq) s) ss)
  any_cons None s ss = refl
  any_cons (Some t) s ss = refl

  any_plain : (ts : List (TypeItem N P × Bool)) (s : Sig N P) → list_any (same_sig (same_written eq) s) (filter_map plain_sig ts) ≡ list_any (takes s) (map plain_sig ts)
  any_plain [] s = refl
  any_plain (t ∷ ts) s = any_cons (plain_sig t) s (filter_map plain_sig ts) ∙ ap (λ b. takes s (plain_sig t) || b) (any_plain ts s)

  pub knows_plain : (fs : List (Field N P)) → Knows (filter_map plain_sig (flat_map written_types fs)) (plain_types fs)
  knows_plain fs s = any_plain (flat_map written_types fs) s ∙ sym (found (takes s) 0 (plain_types fs))

  pub implied_so : (fs : List (Field N P)) → implied eq fs ≡ all_added (plain_types fs) (flat_map used_sigs fs)
  implied_so fs = added_so (filter_map plain_sig (flat_map written_types fs)) (plain_types fs) (flat_map used_sigs fs) (knows_plain fs)

  -- the types at the end
  abbrev pub types_with : List (Option (Sig N P)) → List (P × Sig N P) → List (Option (Sig N P))
  types_with types us = types ++ map (λ u. Some u.1) (all_added types us)

  -- are those after a use and the rest
  pub types_so : (types : List (Option (Sig N P))) (u : P × Sig N P) (us : List (P × Sig N P)) → types_with types (u ∷ us) ≡ types_with (types_after (taken_in types u.1) types u.1) us
  types_so types u us = by_case (taken_in types u.1)
    where
      by_case : (o : Option ℕ) → types ++ map (λ v. Some v.1) (added o u ++ all_added (types_after o types u.1) us) ≡ types_with (types_after o types u.1) us
      by_case None = sym (append_assoc types (Some (unnamed u.1) ∷ []) (map (λ v. Some v.1) (all_added (types ++ Some (unnamed u.1) ∷ []) us)))
      by_case (Some n) = refl

  pub taken_so : (types : List (Option (Sig N P))) (u : P × Sig N P) (us : List (P × Sig N P)) → same_sig (same_written eq) u.1 u.1 ≡ true →
      taken_in (types_with types (u ∷ us)) u.1 ≡ Some (number_or (taken_in types u.1) (length types))
  taken_so types u us itself = found_joined (takes u.1) 0 types (map (λ v. Some v.1) (all_added types (u ∷ us))) ∙ by_case (taken_in types u.1)
    where
      by_case : (o : Option ℕ) → option_or o (position_from (takes u.1) (0 + length types) (map (λ v. Some v.1) (added o u ++ all_added (types_after o types u.1) us))) ≡ Some (number_or o (length types))
      by_case (Some n) = refl
      by_case None =
          ap (λ b. cond b (Some (0 + length types)) (position_from (takes u.1) (0 + length types + 1) (map (λ v. Some v.1) (all_added (types ++ Some (unnamed u.1) ∷ []) us)))) (same_unnamed (same_written eq) u.1 u.1 ∙ itself)
          ∙ ap (λ n. Some n) (let e : 0 + length types ≡ length types = omega arith in e)
