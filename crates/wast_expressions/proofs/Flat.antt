-- An expression means what it means written flat.
use Rattle.std.specs.Prelude.{codes}
use Rattle.std.proofs.Common.{◌≡◌, ℕ, zero, suc, true, false, List, [], ◌∷◌, ◌++◌, Option, Some, None, inl, inr, refl, sym, ◌∙◌, ap, subst, append_assoc}
use Rattle.wast_grammar.specs.Tokens.{SignificantToken, Word}
use Rattle.wast_grammar.specs.Spelling as spelling
use Rattle.wast_grammar.specs.Look.{look, at, join}
use Rattle.wast_grammar.specs.Grammar.{Syntax, maybe, wide, paren, seq, word}
use Rattle.wast_grammar.specs.Recursion.{deep}
use Rattle.wast_grammar.specs.Behind.{row_spells}
use Rattle.wast_grammar.specs.Lawful.{LawfulBut}
use Rattle.wast_grammar.proofs.Looks.{apart_no2, join_right, join_left, no_end}
use Rattle.wast_expressions.specs.Items.{Items, Done, Plain, Made, unfolded, either_hint}
use Rattle.wast_expressions.specs.Expressions.{Heads, GroupKind, OfOperands, OfBlock, OfArms, hint_tests, hint, Inside, Arms, Group, Item, Alone, chain, groups_chain, one_hint, ins_tests, group_tests, else_tests, one_ins, own_item, item, items_over, inside, group_step, groups, items}
use Rattle.wast_expressions.specs.Heeds.{Heeds, Spelled}
use Rattle.wast_expressions.proofs.ExpressionLaws.{maybe_hint_laws}
use Rattle.wast_expressions.proofs.Outs as outs

module _ {N P I : Type 0} (ins : Syntax N P I) (heads : Heads I) (m : Made P I) where
  -- Instructions by themselves, each behind its hint: the items of what is flat, and the tokens that spell it.
  abbrev pub flat_items : List (Option ℕ × I) → Items P I
  flat_items [] = Done
  flat_items (x ∷ xs) = Plain x.0 x.1 (flat_items xs)

  pub flat_unfolds : (xs : List (Option ℕ × I)) → unfolded m (flat_items xs) ≡ xs
  flat_unfolds [] = refl
  flat_unfolds (x ∷ xs) = ap (λ z. x ∷ z) (flat_unfolds xs)

  abbrev pub FlatTokens : List (Option ℕ × I) → List (SignificantToken N P) → Type 0
  FlatTokens [] us = us ≡ []
  FlatTokens (x ∷ xs) us = (h i rest : List (SignificantToken N P)) × (us ≡ (h ++ i) ++ rest) × (maybe hint_tests hint).spells x.0 h × ins.spells x.1 i × FlatTokens xs rest

  flat_append : (xs ys : List (Option ℕ × I)) (us vs : List (SignificantToken N P)) → FlatTokens xs us → FlatTokens ys vs → FlatTokens (xs ++ ys) (us ++ vs)
  flat_append [] ys us vs f g = rw f g
  flat_append (x ∷ xs) ys us vs f g = (f.0, f.1, f.2 ++ vs, ap (λ z. z ++ vs) f.3 ∙ append_assoc (f.0 ++ f.1) f.2 vs, f.4, f.5, flat_append xs ys f.2 vs f.6 g)

  pub record Flat (xs : List (Option ℕ × I)) : Type 0 where
    pub tokens : List (SignificantToken N P)
    pub spelled : FlatTokens xs tokens

  both : (xs ys : List (Option ℕ × I)) → Flat xs → Flat ys → Flat (xs ++ ys)
  both xs ys f g = record { tokens = f.tokens ++ g.tokens; spelled = flat_append xs ys f.tokens g.tokens f.spelled g.spelled }

  single : (h : Option ℕ) (i : I) (hs is : List (SignificantToken N P)) → (maybe hint_tests hint).spells h hs → ins.spells i is → Flat ((h, i) ∷ [])
  single h i hs is s t = record { tokens = (hs ++ is) ++ []; spelled = (hs, is, [], refl, s, t, refl) }

  -- The instructions that groups make are spelled by themselves.
  module _ (sp : Spelled ins m) where
    abbrev out : Option ℕ → I → Inside P I → P → List (Option ℕ × I)
    out h i x p = outs.group_out m h i x p

    end_flat : (p : P) → Flat ((None, m.end_at p) ∷ [])
    end_flat p = single None (m.end_at p) [] (Word (codes "end") p ∷ []) refl (sp.end_is p)

    else_flat : (p : P) → Flat ((None, m.else_at p) ∷ [])
    else_flat p = single None (m.else_at p) [] (Word (codes "else") p ∷ []) refl (sp.else_is p)

    which : (h g : Option ℕ) (hs gs : List (SignificantToken N P)) → (maybe hint_tests hint).spells h hs → (maybe hint_tests hint).spells g gs → (us : List (SignificantToken N P)) × (maybe hint_tests hint).spells (either_hint h g) us
    which None g hs gs s t = (gs, t)
    which (Some v) g hs gs s t = (hs, s)

    module _ (W : Syntax N P (Group P I)) (claim : (g : Group P I) (ts : List (SignificantToken N P)) → W.spells g ts → (h : Option ℕ) (hs : List (SignificantToken N P)) → (maybe hint_tests hint).spells h hs → Flat (out h g.head g.inside g.close)) where
      abbrev else_part : Syntax N P (P × Items P I)
      else_part = paren (seq (word (codes "else")) (items_over ins heads W))

      one_flat : (x : Option ℕ × Item P I) (us : List (SignificantToken N P)) → (item ins heads W).spells x us → Flat (outs.item_out m x.0 x.1)
      one_flat x us s = elim s.1.4 [
        | inl a ↦ subst (λ (z : Item P I). Flat (outs.item_out m x.0 z)) a.1 (single x.0 a.0 s.1.0 s.1.1 s.1.3 a.2)
        | inr g ↦ subst (λ (z : Item P I). Flat (outs.item_out m x.0 z)) g.1 (claim g.0 s.1.1 g.2 x.0 s.1.0 s.1.3)
      ]

      row_flat : (xs : List (Option ℕ × Item P I)) (us : List (SignificantToken N P)) → row_spells (item ins heads W).spells (λ x. own_item ins heads x.1) xs us → Flat (unfolded m (chain xs))
      row_flat [] us s = record { tokens = []; spelled = refl }
      row_flat (x ∷ xs) us s = subst Flat (sym (outs.before m x.0 x.1 (chain xs))) (both _ _ (one_flat x s.0 s.3) (row_flat xs s.1 s.4))

      items_flat : (x : Items P I) (us : List (SignificantToken N P)) → (items_over ins heads W).spells x us → Flat (unfolded m x)
      items_flat x us s = subst (λ z. Flat (unfolded m z)) s.1 (row_flat s.0 us s.2)

      conditions_flat : (cs : List (Group P I)) (us : List (SignificantToken N P)) → spelling.many W.spells cs us → Flat (unfolded m (groups_chain cs))
      conditions_flat [] us s = record { tokens = []; spelled = refl }
      conditions_flat (c ∷ cs) us s = subst Flat (sym (outs.group_before m None c.head c.inside c.close (groups_chain cs))) (both _ _ (claim c s.0 s.3 None [] refl) (conditions_flat cs s.1 s.4))

      -- behind its conditions
      arm_flat : (h g : Option ℕ) (i : I) (p : P) (c y : Items P I) (e : Option (P × Items P I)) → Flat (unfolded m c) → Flat ((either_hint h g, i) ∷ []) → Flat (unfolded m y) → ((n : P × Items P I) → e ≡ Some n → Flat (unfolded m n.1)) → Flat (out h i (Arms c g y e) p)
      arm_flat h g i p c y None fc fi fy fe = both _ _ fc (both _ _ fi (both _ _ fy (end_flat p)))
      arm_flat h g i p c y (Some n) fc fi fy fe = both _ _ fc (both _ _ fi (both _ _ fy (both _ _ (else_flat n.0) (both _ _ (fe n refl) (end_flat p)))))

      head_flat : (kind : GroupKind) (h : Option ℕ) (i : I) (x : Inside P I) (p : P) (hs is ws : List (SignificantToken N P)) → (maybe hint_tests hint).spells h hs → ins.spells i is → (inside ins heads W kind).spells x ws → Flat (out h i x p)
      head_flat OfOperands h i x p hs is ws s t u = subst (λ (z : Inside P I). Flat (out h i z p)) u.1 (both _ _ (items_flat u.0 ws u.2) (single h i hs is s t))
      head_flat OfBlock h i x p hs is ws s t u = subst (λ (z : Inside P I). Flat (out h i z p)) u.1 (both _ _ (single h i hs is s t) (both _ _ (items_flat u.0 ws u.2) (end_flat p)))
      head_flat OfArms h i x p hs is ws s t u =
          let b = u.0 in
          let q = u.2 in
          let r = q.4 in
          let v = r.4 in
          let w = which h b.1.0 hs r.0 s r.3 in
          let body = v.3.4 in
          subst (λ (z : Inside P I). Flat (out h i z p)) u.1 (arm_flat h b.1.0 i p (groups_chain b.0) b.1.1.0 b.1.1.1
          (conditions_flat b.0 q.0 q.3)
          (single (either_hint h b.1.0) i w.0 is w.1 t)
          (subst (λ z. Flat (unfolded m z)) body.1 (items_flat body.0.1 body.2.1 body.2.4))
          (λ n e. (let k = subst (λ (z : Option (P × Items P I)). (maybe else_tests (else_part)).spells z v.1) e v.4 in items_flat n.1 k.4.1 k.4.4)))

    groups_flat : (n : ℕ) (g : Group P I) (ts : List (SignificantToken N P)) → (deep (group_tests heads) false [] (group_step ins heads) n).spells g ts → (h : Option ℕ) (hs : List (SignificantToken N P)) → (maybe hint_tests hint).spells h hs → Flat (out h g.head g.inside g.close)
    groups_flat zero g ts s h hs t = absurd s
    groups_flat (suc n) g ts s h hs t =
        let a = s.0 in
        let f = s.2.3 in
        subst (λ (z : Group P I). Flat (out h z.head z.inside z.close)) s.1
        (head_flat (wide (group_tests heads) false [] (deep (group_tests heads) false [] (group_step ins heads) n)) (groups_flat n) (heads.kind a.0.0) h a.0.0 a.0.1 a.1 hs f.0 f.1 t f.3 f.4)

    -- What spells items can be written flat.
    pub written_flat : (x : Items P I) (ts : List (SignificantToken N P)) → (items ins heads).spells x ts → Flat (unfolded m x)
    written_flat x ts s = items_flat (groups ins heads) (λ g ts s h hs t. groups_flat s.0 g ts s.1 h hs t) x ts s

  -- What is flat spells its items: no instruction goes on with a hint or a word.
  module _ (li : LawfulBut (one_ins ins heads) heads.own) (heeds : Heeds heads) where
    flat_begins : (x : Option ℕ × I) (h i rest : List (SignificantToken N P)) → (maybe hint_tests hint).spells x.0 h → ins.spells x.1 i → at (join hint_tests (ins_tests heads)) ((h ++ i) ++ rest) ≡ true
    flat_begins x h i rest s t = rw (append_assoc h i rest) (elim (maybe_hint_laws.leads x.0 h (i ++ rest) s) [
      | inl y ↦ join_left (look (h ++ (i ++ rest))) hint_tests (ins_tests heads) y
      | inr z ↦ rw z.1 (elim (li.leads x.1 i rest t) [ inl y ↦ join_right (look (i ++ rest)) hint_tests (ins_tests heads) y | inr w ↦ absurd cc ])
    ])

    flat_own : (j : I) (xs : List (Option ℕ × I)) (us : List (SignificantToken N P)) → FlatTokens xs us → at (heads.own j) us ≡ false
    flat_own j [] us f = rw f (no_end (heads.own j) (heeds.own_ended j)).0
    flat_own j (x ∷ xs) us f = rw f.3 (apart_no2 _ (heads.own j) (join hint_tests (ins_tests heads)) (heeds.own_flat j) (flat_begins x f.0 f.1 f.2 f.4 f.5))

    abbrev flat_row : List (Option ℕ × I) → List (Option ℕ × Item P I)
    flat_row [] = []
    flat_row (x ∷ xs) = (x.0, Alone x.1) ∷ flat_row xs

    row_is : (xs : List (Option ℕ × I)) → chain (flat_row xs) ≡ flat_items xs
    row_is [] = refl
    row_is (x ∷ xs) = ap (λ z. Plain x.0 x.1 z) (row_is xs)

    one_is : (x : Option ℕ × I) → one_hint {P = P} {I = I} (x.0, Alone x.1) ≡ true
    one_is (None, i) = refl
    one_is (Some v, i) = refl

    row_spelled : (xs : List (Option ℕ × I)) (us : List (SignificantToken N P)) → FlatTokens xs us → row_spells (item ins heads (groups ins heads)).spells (λ x. own_item ins heads x.1) (flat_row xs) us
    row_spelled [] us f = f
    row_spelled (x ∷ xs) us f = (f.0 ++ f.1, f.2, f.3, (one_is x, (f.0, f.1, refl, f.4, inl (x.1, refl, f.5))), row_spelled xs f.2 f.6, flat_own x.1 xs f.2 f.6)

    pub flat_spelled : (xs : List (Option ℕ × I)) (us : List (SignificantToken N P)) → FlatTokens xs us → (items ins heads).spells (flat_items xs) us
    flat_spelled xs us f = (flat_row xs, row_is xs, row_spelled xs us f)
