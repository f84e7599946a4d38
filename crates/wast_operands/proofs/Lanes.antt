-- A memory argument and a lane are spelled one behind the other exactly where what stands in front tells so.
use Rattle.std.proofs.Common.{◌≡◌, ℕ, Bool, true, false, List, [], ◌++◌, Option, Some, None, inl, inr, refl, sym, ◌∙◌, ap, subst, arith, append_assoc, append-nil, nat_lt}
use Rattle.std.specs.Prelude.{◌-◌, ◌^◌}
use Rattle.std.proofs.lemmas.Bool.{false≢true, leb-true, le-leb, ltb-true, lt-ltb}
use Rattle.wast_vector_operands.specs.Tokens.{SignificantToken}
use Rattle.wast_vector_operands.specs.Spelling.{Spells}
use Rattle.wast_vector_operands.specs.Grammar.{seq}
use Rattle.wast_vector_operands.specs.Identifiers.{Reference, ByNumber, ByName}
use Rattle.wast_vector_operands.specs.Integers.{number_in, unsigned}
use Rattle.wast_vector_operands.specs.Literals.{is_within}
use Rattle.wast_vector_operands.specs.VectorSyntax.{lane}
use Rattle.wast_operands.specs.OperandTree.{Ordering, MemArgTarget, Memory, Modifiers, MemArg}
use Rattle.wast_operands.specs.OperandSyntax.{bare, is_bare, as_mem_arg, target, one_or_two_orderings, offset, align, modifiers, mem_arg, behind_integer, integer_first, behind_modifiers, untargeted_lane, by_target}

-- a lane is an index that is below 256
lane_number : (minus : Bool) (n : ℕ) → is_within (2 ^ 8 - 1) None (record { minus = minus; size = n }) ≡ true → (is_within (2 ^ 32 - 1) None (record { minus = minus; size = n }) ≡ true) × (nat_lt n (2 ^ 8) ≡ true)
lane_number true n h = elim (false≢true h) [ ]
lane_number false n h = let k = leb-true n (2 ^ 8 - 1) h in (le-leb n (2 ^ 32 - 1) (omega (arith, k)), lt-ltb n (2 ^ 8) (omega (arith, k)))

number_lane : (minus : Bool) (n : ℕ) → is_within (2 ^ 32 - 1) None (record { minus = minus; size = n }) ≡ true → nat_lt n (2 ^ 8) ≡ true → is_within (2 ^ 8 - 1) None (record { minus = minus; size = n }) ≡ true
number_lane true n h k = elim (false≢true h) [ ]
number_lane false n h k = let l = ltb-true n (2 ^ 8) k in le-leb n (2 ^ 8 - 1) (omega (arith, l))

-- no modifiers
none_written : (o : Option (Ordering × Option Ordering)) (a b : Option ℕ) → is_bare (record { ordering = o; offset = a; align = b }) ≡ true → record { ordering = o; offset = a; align = b } ≡ bare
none_written None None None e = refl
none_written None None (Some b) e = elim (false≢true e) [ ]
none_written None (Some a) b e = elim (false≢true e) [ ]
none_written (Some o) a b e = elim (false≢true e) [ ]

bare_alone : (m : Modifiers) → is_bare m ≡ true → m ≡ bare
bare_alone m e = none_written m.ordering m.offset m.align e

module _ {N P : Type 0} where
  bare_spelled : (modifiers {N = N} {P = P}).spells bare []
  bare_spelled = ((None, (None, None)), refl, ([], [], refl, refl, ([], [], refl, refl, refl)))

  -- bare modifiers are no tokens
  no_tokens : (m : Option (Ordering × Option Ordering) × (Option ℕ × Option ℕ)) (v : List (SignificantToken N P)) → is_bare (record { ordering = m.0; offset = m.1.0; align = m.1.1 }) ≡ true → (seq {N = N} {P = P} one_or_two_orderings (seq offset align)).spells m v → v ≡ []
  no_tokens (None, (None, None)) v e (a, b, c, f, (x, y, d, g, h)) = c ∙ ap (λ z. z ++ b) f ∙ d ∙ ap (λ z. z ++ y) g ∙ h
  no_tokens (None, (None, Some y)) v e s = elim (false≢true e) [ ]
  no_tokens (None, (Some x, y)) v e s = elim (false≢true e) [ ]
  no_tokens (Some o, y) v e s = elim (false≢true e) [ ]

  bare_empty : (m : Modifiers) (v : List (SignificantToken N P)) → is_bare m ≡ true → modifiers.spells m v → v ≡ []
  bare_empty m v e (x, f, s) = no_tokens x v (ap is_bare f ∙ e) s

  abbrev in_turn : (natural : ℕ) → Spells N P (MemArg N P × ℕ)
  in_turn natural = (seq (mem_arg natural) lane).spells

  -- ONE BEHIND THE OTHER, of what they are
  put : (natural : ℕ) (t : Option (MemArgTarget N P)) (m : Modifiers) (l : ℕ) (b : MemArg N P × ℕ) (u v w ts : List (SignificantToken N P)) →
      (as_mem_arg natural t m, l) ≡ b → ts ≡ u ++ (v ++ w) → target.spells t u → modifiers.spells m v → (lane {N = N} {P = P}).spells l w → in_turn natural b ts
  put natural t m l b u v w ts e d at_first behind last =
      (u ++ v, w, d ∙ sym (append_assoc u v w), ((t, m), ap (λ x. x.0) e, (u, v, refl, at_first, behind)), subst (λ x. (lane {N = N} {P = P}).spells x w) (ap (λ x. x.1) e) last)

  -- WHAT IS DECIDED
  behind_number : (natural : ℕ) (n : ℕ × P) (m : Modifiers) (y b : MemArg N P × ℕ) (u w ts : List (SignificantToken N P)) →
      y ≡ b → ts ≡ u ++ w → (number_in {N = N} {P = P} (2 ^ 32 - 1) None unsigned).spells n u → (behind_integer natural n).spells y w → in_turn natural b ts
  behind_number natural n m y b u w ts e d number (inl ((mods, l), g, (v, x, c, behind, last))) =
      put natural (Some (Memory (ByNumber n.0 n.1))) mods l b u v x ts (g ∙ e) (d ∙ ap (λ z. u ++ z) c) (inl (ByNumber n.0 n.1, refl, inl (n, refl, number))) behind last
  behind_number natural n m y b u w ts e d ((lit, place), says, (within, token)) (inr (small, (unit, g, h))) =
      let lower = number_lane lit.minus lit.size within (subst (λ k. nat_lt k (2 ^ 8) ≡ true) (sym (ap (λ k. k.0) says ∙ ap (λ k. k.1) g)) small) in
      put natural None bare n.0 b [] [] u ts (g ∙ e) (d ∙ ap (λ z. u ++ z) h ∙ append-nil u) (inr refl) bare_spelled (n, refl, ((lit, place), says, (lower, token)))

  decided_behind : (natural : ℕ) (m : Modifiers) (c : Bool) (y b : MemArg N P × ℕ) (v w ts : List (SignificantToken N P)) →
      is_bare m ≡ c → y ≡ b → ts ≡ v ++ w → modifiers.spells m v → (behind_modifiers natural m c).spells y w → in_turn natural b ts
  decided_behind natural m false y b v w ts q e d behind (l, f, last) = put natural None m l b [] v w ts (f ∙ e) d (inr refl) behind last
  decided_behind natural m true y b v w ts q e d behind ((n, z), f, (u, x, k, number, rest)) =
      behind_number natural n m z b u x ts (f ∙ e) (d ∙ ap (λ z. z ++ w) (bare_empty m v q behind) ∙ k) number rest

  pub lane_in_turn : (natural : ℕ) (b : MemArg N P × ℕ) (ts : List (SignificantToken N P)) → (by_target natural).spells b ts → in_turn natural b ts
  lane_in_turn natural b ts (inl ((t, (m, l)), e, (u, w, d, (n, g, id), (v, x, c, behind, last)))) =
      put natural (Some t) m l b u v x ts e (d ∙ ap (λ z. u ++ z) c) (inl (ByName n, ap Some g, inr (n, refl, id))) behind last
  lane_in_turn natural b ts (inr (inl ((t, (m, l)), e, (u, w, d, array, (v, x, c, behind, last))))) =
      put natural (Some t) m l b u v x ts e (d ∙ ap (λ z. u ++ z) c) (inr array) behind last
  lane_in_turn natural b ts (inr (inr ((m, y), e, (v, w, d, behind, rest)))) = decided_behind natural m (is_bare m) y b v w ts refl e d behind rest

  -- AND BACK
  by_number : (natural : ℕ) (m : Modifiers) (l : ℕ) (b : MemArg N P × ℕ) (n : ℕ × P) (u v w ts : List (SignificantToken N P)) →
      (as_mem_arg natural (Some (Memory (ByNumber n.0 n.1))) m, l) ≡ b → ts ≡ u ++ (v ++ w) → (number_in {N = N} {P = P} (2 ^ 32 - 1) None unsigned).spells n u → modifiers.spells m v → (lane {N = N} {P = P}).spells l w → (untargeted_lane natural).spells b ts
  by_number natural m l b n u v w ts e d number behind last =
      ((bare, b), refl, ([], ts, refl, bare_spelled, ((n, b), refl, (u, v ++ w, d, number, inl ((m, l), e, (v, w, refl, behind, last))))))

  alone : (natural : ℕ) (m : Modifiers) (l : ℕ) (b : MemArg N P × ℕ) (w : List (SignificantToken N P)) →
      is_bare m ≡ true → (as_mem_arg natural None m, l) ≡ b → (lane {N = N} {P = P}).spells l w → (integer_first natural).spells b w
  alone natural m l b w q e (n, f, ((lit, place), says, (within, token))) =
      let both = lane_number lit.minus lit.size within in
      let same : (as_mem_arg natural None bare, n.0) ≡ b = ap (λ k. (as_mem_arg natural None bare, k)) f ∙ ap (λ k. (as_mem_arg natural None k, l)) (sym (bare_alone m q)) ∙ e in
      let small : nat_lt b.1 (2 ^ 8) ≡ true = subst (λ k. nat_lt k (2 ^ 8) ≡ true) (ap (λ k. k.0) says ∙ ap (λ k. k.1) same) both.1 in
      ((n, b), refl, (w, [], sym (append-nil w), ((lit, place), says, (both.0, token)), inr (small, (tt, same, refl))))

  untargeted : (natural : ℕ) (m : Modifiers) (c : Bool) (l : ℕ) (b : MemArg N P × ℕ) (w : List (SignificantToken N P)) →
      is_bare m ≡ c → (as_mem_arg natural None m, l) ≡ b → (lane {N = N} {P = P}).spells l w → (behind_modifiers natural m c).spells b w
  untargeted natural m true l b w q e last = alone natural m l b w q e last
  untargeted natural m false l b w q e last = (l, e, last)

  turned : (natural : ℕ) (t : Option (MemArgTarget N P)) (m : Modifiers) (l : ℕ) (b : MemArg N P × ℕ) (u v w ts : List (SignificantToken N P)) →
      (as_mem_arg natural t m, l) ≡ b → ts ≡ u ++ (v ++ w) → target.spells t u → modifiers.spells m v → (lane {N = N} {P = P}).spells l w → (by_target natural).spells b ts
  turned natural t m l b u v w ts e d (inl (i, g, inl (n, h, number))) behind last =
      let f = ap (λ k. (as_mem_arg natural k m, l)) (ap (λ k. Some (Memory k)) h ∙ g) ∙ e in
      inr (inr (by_number natural m l b n u v w ts f d number behind last))
  turned natural t m l b u v w ts e d (inl (i, g, inr (n, h, id))) behind last =
      let f = ap (λ k. (as_mem_arg natural k m, l)) (ap (λ k. Some (Memory k)) h ∙ g) ∙ e in
      inl ((Memory (ByName n), (m, l)), f, (u, v ++ w, d, (n, refl, id), (v, w, refl, behind, last)))
  turned natural (Some t) m l b u v w ts e d (inr array) behind last = inr (inl ((t, (m, l)), e, (u, v ++ w, d, array, (v, w, refl, behind, last))))
  turned natural None m l b u v w ts e d (inr none) behind last =
      inr (inr ((m, b), refl, (v, w, d ∙ ap (λ z. z ++ (v ++ w)) none, behind, untargeted natural m (is_bare m) l b w refl e last)))

  pub turn_decided : (natural : ℕ) (b : MemArg N P × ℕ) (ts : List (SignificantToken N P)) → in_turn natural b ts → (by_target natural).spells b ts
  turn_decided natural b ts (u, w, d, ((t, m), e, (x, v, c, at_first, behind)), last) =
      turned natural t m b.1 b x v w ts (ap (λ k. (k, b.1)) e) (d ∙ ap (λ z. z ++ w) c ∙ append_assoc x v w) at_first behind last
