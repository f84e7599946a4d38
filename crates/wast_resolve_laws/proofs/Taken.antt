-- The type that a use takes is a function type, equal to that which the use writes.
use Rattle.std.proofs.Common.{◌≡◌, ℕ, zero, suc, ◌+◌, Bool, true, false, List, [], ◌∷◌, ◌++◌, map, Option, Some, None, cond, refl, sym, ◌∙◌, ap, arith}
use Rattle.std.specs.Prelude.{if◌then◌else◌, nat_eq, slice_get, option_and_then, unwrap_or}
use Rattle.std.specs.List.{flat_map, position_from}
use Rattle.std.specs.Cmp.Derive.{both_true}
use Rattle.std.specs.Cmp.Lexicographic.{pointwise}
use Rattle.std.proofs.lemmas.Bool.{false≢true, eq-eqb}
use Rattle.std.proofs.lemmas.Option.{none-some, same_Some}
use Rattle.wasm_encoder_base.specs.Table.{Types}
use Rattle.wast_parser.specs.Identifiers.{Reference, ByNumber, ByName}
use Rattle.wast_value_types.specs.ValueTree.{HeapType, Abstract, Concrete, Exact, ValType, Number, Ref}
use Rattle.wast_signatures.specs.TypeTree.{Local, Sig, TypeItem}
use Rattle.wast_field_syntax.specs.FieldTree.{Field}
use Rattle.wast_meaning.specs.Implied.{same_flag, same_option, same_heap, same_val, same_local, same_sig, same_written, no_sig, written_types, is_plain, plain_sig, implied_sigs, sig_at, type_taken}
use Rattle.wast_meaning.specs.Scope.{Scope, scope_of}
use Rattle.wast_meaning.specs.Demands.{same_numbered, agrees}
use Rattle.wast_meaning.proofs.Settled.{left, right}
use Rattle.wast_meaning.proofs.Taken.{takes}
use Rattle.wast_resolve_laws.proofs.Sigs.{sig_of_type}

-- a weaker test of indices holds of more types
module _ {N P : Type 0} (same other : Reference N P → Reference N P → Bool) (weaker : (i j : Reference N P) → same i j ≡ true → other i j ≡ true) where
  heap_so : (g h : HeapType N P) → same_heap same g h ≡ true → same_heap other g h ≡ true
  heap_so (Abstract s a) (Abstract t b) e = e
  heap_so (Abstract s a) (Concrete j) e = elim (false≢true e) [ ]
  heap_so (Abstract s a) (Exact j) e = elim (false≢true e) [ ]
  heap_so (Concrete i) (Abstract t b) e = elim (false≢true e) [ ]
  heap_so (Concrete i) (Concrete j) e = weaker i j e
  heap_so (Concrete i) (Exact j) e = elim (false≢true e) [ ]
  heap_so (Exact i) (Abstract t b) e = elim (false≢true e) [ ]
  heap_so (Exact i) (Concrete j) e = elim (false≢true e) [ ]
  heap_so (Exact i) (Exact j) e = weaker i j e

  val_so : (s t : ValType N P) → same_val same s t ≡ true → same_val other s t ≡ true
  val_so (Number a) (Number b) e = e
  val_so (Number a) (Ref r) e = elim (false≢true e) [ ]
  val_so (Ref r) (Number b) e = elim (false≢true e) [ ]
  val_so (Ref r) (Ref s) e =
      both_true (left (same_flag r.nullable s.nullable) (same_heap same r.heap_type s.heap_type) e) (heap_so r.heap_type s.heap_type (right (same_flag r.nullable s.nullable) (same_heap same r.heap_type s.heap_type) e))

  each_so : {A : Type 0} (f g : A → A → Bool) → ((a b : A) → f a b ≡ true → g a b ≡ true) → (xs ys : List A) → pointwise f xs ys ≡ true → pointwise g xs ys ≡ true
  each_so f g h [] [] e = refl
  each_so f g h [] (y ∷ ys) e = elim (false≢true e) [ ]
  each_so f g h (x ∷ xs) [] e = elim (false≢true e) [ ]
  each_so f g h (x ∷ xs) (y ∷ ys) e = both_true (h x y (left (f x y) (pointwise f xs ys) e)) (each_so f g h xs ys (right (f x y) (pointwise f xs ys) e))

  pub sig_so : (s t : Sig N P) → same_sig same s t ≡ true → same_sig other s t ≡ true
  sig_so s t e =
      both_true
      (each_so (same_local same) (same_local other) (λ a b h. val_so a.val_type b.val_type h) s.params t.params (left (pointwise (same_local same) s.params t.params) (pointwise (same_val same) s.results t.results) e))
      (each_so (same_val same) (same_val other) val_so s.results t.results (right (pointwise (same_local same) s.params t.params) (pointwise (same_val same) s.results t.results) e))

-- THE FIRST THAT PASSES
abbrev FoundAt : {A : Type 0} → (A → Bool) → ℕ → ℕ → List A → Type 0
FoundAt {A} f i n xs = (k : ℕ) × (y : A) × (n ≡ i + k) × (slice_get xs k ≡ Some y) × (f y ≡ true)

found_at : {A : Type 0} (f : A → Bool) (i n : ℕ) (xs : List A) → position_from f i xs ≡ Some n → FoundAt f i n xs
found_at f i n [] e = elim (none-some n e) [ ]
found_at f i n (x ∷ xs) e = by_case (f x) refl e (found_at f (i + 1) n xs)
  where
    by_case : (b : Bool) → f x ≡ b → cond b (Some i) (position_from f (i + 1) xs) ≡ Some n → (position_from f (i + 1) xs ≡ Some n → FoundAt f (i + 1) n xs) → FoundAt f i n (x ∷ xs)
    by_case true t h later = let j : i ≡ n = same_Some i n h in (0, x, omega arith, refl, t)
    by_case false t h later =
        let r : FoundAt f (i + 1) n xs = later h in
        let j : n ≡ (i + 1) + r.0 = r.2 in
        (suc r.0, r.1, omega arith, r.3, r.4)

module _ {N P : Type 0} where
  of_plain : (b : Bool) (o : Option (Sig N P)) (t : Sig N P) → (if b then o else None) ≡ Some t → o ≡ Some t
  of_plain true o t e = e
  of_plain false o t e = elim (none-some t e) [ ]

  as_function : (ws : List (TypeItem N P × Bool)) (is : List (Option (Sig N P))) (k : ℕ) (t : Sig N P) → slice_get (map plain_sig ws ++ is) k ≡ Some (Some t) → slice_get (map sig_of_type ws ++ is) k ≡ Some (Some t)
  as_function [] is k t e = e
  as_function (w ∷ ws) is zero t e = ap (λ (o : Option (Sig N P)). Some o) (of_plain (is_plain w) (sig_of_type w) t (same_Some (plain_sig w) (Some t) e))
  as_function (w ∷ ws) is (suc k) t e = as_function ws is k t e

module _ {N P : Type 0} (eq : N → N → Bool) where
  -- the type at a number that is taken
  abbrev pub TakenAt : List (Field N P) → Sig N P → ℕ → Type 0
  TakenAt fs s n = (t : Sig N P) × (sig_at eq fs n ≡ Some t) × (same_sig (same_written eq) s t ≡ true)

  pub taken_at : (fs : List (Field N P)) (s : Sig N P) (n : ℕ) → type_taken eq fs s ≡ Some n → TakenAt fs s n
  taken_at fs s n e = of_found (found_at (takes eq s) 0 n (map plain_sig (flat_map written_types fs) ++ implied_sigs eq fs) e)
    where
      of_type : (k : ℕ) (y : Option (Sig N P)) → n ≡ k → slice_get (map plain_sig (flat_map written_types fs) ++ implied_sigs eq fs) k ≡ Some y → takes eq s y ≡ true → TakenAt fs s n
      of_type k None j g t = elim (false≢true t) [ ]
      of_type k (Some x) j g t =
          (x, ap (λ m. sig_at eq fs m) j ∙ ap (λ o. option_and_then (λ z. z) o) (as_function (flat_map written_types fs) (implied_sigs eq fs) k x g), t)

      of_found : FoundAt (takes eq s) 0 n (map plain_sig (flat_map written_types fs) ++ implied_sigs eq fs) → TakenAt fs s n
      of_found r = let j : n ≡ 0 + r.0 = r.2 in of_type r.0 r.1 (omega arith) r.3 r.4

-- WHAT FITS: the type that is taken agrees with the signature, and one taken for none has no parameters
pub record Fits {N P : Type 0} (taken : Sig N P → Option ℕ) (s : Scope N P) : Type 0 where
  pub agreed : (t : Sig N P) (n : ℕ) → taken t ≡ Some n → agrees s t (s.sig_of n) ≡ true
  pub bare : (n : ℕ) → taken no_sig ≡ Some n → (unwrap_or (s.sig_of n) no_sig).params ≡ []

pub number_self : (o : Option ℕ) → same_option nat_eq o o ≡ true
number_self None = refl
number_self (Some n) = eq-eqb n n refl

module _ {N P : Type 0} (eq : N → N → Bool) (sound : (m n : N) → eq m n ≡ true → m ≡ n) where
  -- what is written alike has one number
  pub numbered_so : (s : Scope N P) (i j : Reference N P) → same_written eq i j ≡ true → same_numbered s i j ≡ true
  numbered_so s (ByNumber m p) (ByNumber n q) e = e
  numbered_so s (ByNumber m p) (ByName j) e = elim (false≢true e) [ ]
  numbered_so s (ByName i) (ByNumber n q) e = elim (false≢true e) [ ]
  numbered_so s (ByName i) (ByName j) e = ap (λ n. same_option nat_eq ((s.spaces Types).look i.0) ((s.spaces Types).look n)) (sym (sound i.0 j.0 e)) ∙ number_self ((s.spaces Types).look i.0)

  no_params : (same : Local N P → Local N P → Bool) (ps : List (Local N P)) → pointwise same [] ps ≡ true → ps ≡ []
  no_params same [] e = refl
  no_params same (p ∷ ps) e = elim (false≢true e) [ ]

  pub taken_fits : (fs : List (Field N P)) → Fits (type_taken eq fs) (scope_of eq fs)
  taken_fits fs = record {
    agreed = λ t n e.
        let r : TakenAt eq fs t n = taken_at eq fs t n e in
        ap (λ o. agrees (scope_of eq fs) t o) r.1 ∙ sig_so (same_written eq) (same_numbered (scope_of eq fs)) (numbered_so (scope_of eq fs)) t r.0 r.2;
    bare = λ n e.
        let r : TakenAt eq fs no_sig n = taken_at eq fs no_sig n e in
        ap (λ o. (unwrap_or o no_sig).params) r.1
        ∙ no_params (same_local (same_written eq)) (r.0).params (left (pointwise (same_local (same_written eq)) [] (r.0).params) (pointwise (same_val (same_written eq)) [] (r.0).results) r.2);
  }
