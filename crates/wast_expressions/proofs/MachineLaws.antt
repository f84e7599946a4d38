-- A turn of the loop leaves what is yet to be read as it is.
use Rattle.std.specs.Prelude.{codes}
use Rattle.std.proofs.Common.{◌≡◌, ℕ, ◌<◌, Bool, true, false, List, [], ◌∷◌, ◌++◌, length, Option, Some, None, refl, sym, ◌∙◌, ap, cond, append_assoc, append-nil}
use Rattle.wast_grammar.specs.Tokens.{SignificantToken}
use Rattle.wast_grammar.specs.Spelling.{◌>>=◌, that_open, that_close}
use Rattle.wast_grammar.specs.Look.{NotEnd, at, ask}
use Rattle.wast_grammar.specs.Grammar.{Syntax, Reader, maybe, many, group, paren, seq, word, one_of}
use Rattle.wast_grammar.specs.Behind.{row}
use Rattle.wast_grammar.specs.Lawful.{LawfulBut}
use Rattle.wast_expressions.specs.Items.{Items, Made, unfolded, either_hint}
use Rattle.wast_expressions.specs.Expressions.{GroupKind, OfOperands, OfBlock, OfArms, Heads, hint_tests, hint, Inside, Operand, Body, Arms, Group, Item, Grouped, chain, groups_chain, one_hint, group_tests, item_tests, else_tests, one_ins, own_item, item, items_over, arms_of, inside, group_of, group_step, groups, items}
use Rattle.wast_expressions.specs.Heeds.{Heeds}
use Rattle.wast_expressions.specs.Machine.{Level, EndWith, BlockEnd, Conditions, Arm, AfterThen, AfterElse, both_hints}
use Rattle.wast_grammar.proofs.GrammarLaws.{shrinks}
use Rattle.wast_expressions.proofs.ExpressionLaws.{groups_laws, group_steps, item_laws}
use Rattle.wast_expressions.proofs.Outs as outs
use Rattle.wast_expressions.proofs.ReadLaws.{bind_bind, row_turns, fix_reads, shrinks_but}

module _ {N P I : Type 0} (ins : Syntax N P I) (heads : Heads I) (m : Made P I) (li : LawfulBut (one_ins ins heads) heads.own) (heeds : Heeds heads) where
  abbrev Out : Type 0
  Out = List (Option ℕ × I)

  -- what is done with what was unfolded, from some tokens on
  abbrev Cont : Type 0
  Cont = Out → List (SignificantToken N P) → Option (Out × List (SignificantToken N P))

  abbrev G : Syntax N P (Group P I)
  G = groups ins heads

  abbrev one : Reader N P I
  one = (one_ins ins heads).reads

  abbrev may_hint : Reader N P (Option ℕ)
  may_hint = (maybe hint_tests hint).reads

  abbrev all_items : Reader N P (Items P I)
  all_items = (items ins heads).reads

  abbrev opening : Reader N P P
  opening ts = one_of that_open ts

  abbrev closed : Reader N P P
  closed ts = one_of that_close ts

  abbrev end_of : P → Out
  end_of p = (None, m.end_at p) ∷ []

  abbrev else_of : P → Out
  else_of p = (None, m.else_at p) ∷ []

  abbrev then_reads : Reader N P (Items P I)
  then_reads = (group (codes "then") (items_over ins heads G)).reads

  abbrev may_else : Reader N P (Option (P × Items P I))
  may_else = (maybe else_tests (paren (seq (word (codes "else")) (items_over ins heads G)))).reads

  -- items, and then k
  abbrev pub row_then : Cont → Cont
  row_then k out ts = all_items ts >>= λ x. k (out ++ unfolded m x.0) x.1

  abbrev pub mid_close : Cont → Out → Option (P × Items P I) → List (SignificantToken N P) → Option (Out × List (SignificantToken N P))
  mid_close k out None r = closed r >>= λ c. k (out ++ end_of c.0) c.1
  mid_close k out (Some n) r = closed r >>= λ c. k (((out ++ else_of n.0) ++ unfolded m n.1) ++ end_of c.0) c.1

  abbrev pub mid_then : Cont → Cont
  mid_then k out ts = may_else ts >>= λ e. mid_close k out e.0 e.1

  abbrev pub arms_then : Option ℕ → I → Cont → Cont
  arms_then h i k out ts = may_hint ts >>= λ g. cond (both_hints h g.0) None (then_reads g.1 >>= λ y. mid_then k ((out ++ (either_hint h g.0, i) ∷ []) ++ unfolded m y.0) y.1)

  abbrev pub conds_then : Option ℕ → I → Cont → Cont
  conds_then h i k out ts = (many (group_tests heads) G).reads ts >>= λ c. arms_then h i k (out ++ unfolded m (groups_chain c.0)) c.1

  -- what is read from where a level is on top, and then k
  abbrev pub level_then : Level I → Cont → Cont
  level_then (EndWith h i) k = row_then (λ o r. closed r >>= λ c. k (o ++ (h, i) ∷ []) c.1)
  level_then BlockEnd k = row_then (λ o r. closed r >>= λ c. k (o ++ end_of c.0) c.1)
  level_then (Conditions h i) k = conds_then h i k
  level_then Arm k = row_then (λ o r. closed r >>= λ c. k o c.1)
  level_then AfterThen k = mid_then k
  level_then AfterElse k = λ o r. closed r >>= λ c. k (o ++ end_of c.0) c.1

  -- and then what stands below the stack
  abbrev pub finish_from : Cont → List (Level I) → Cont
  finish_from bottom [] = bottom
  finish_from bottom (l ∷ st) = level_then l (finish_from bottom st)

  -- below the stack of a whole expression stand items
  abbrev pub whole : Cont
  whole = row_then (λ o r. Some (o, r))

  -- what an item unfolds to
  abbrev item_out : Option ℕ → Item P I → Out
  item_out h x = outs.item_out m h x

  pub groups_shrink : (ts : List (SignificantToken N P)) (x : Group P I × List (SignificantToken N P)) → G.reads ts ≡ Some x → length x.1 < length ts
  groups_shrink = shrinks G (groups_laws ins heads li heeds) refl refl

  item_shrinks : (ts : List (SignificantToken N P)) (x : (Option ℕ × Item P I) × List (SignificantToken N P)) → (item ins heads G).reads ts ≡ Some x → length x.1 < length ts
  item_shrinks = shrinks_but (item ins heads G) (λ x. own_item ins heads x.1) (item_laws ins heads li heeds G (groups_laws ins heads li heeds)) refl refl

  -- ROWS, a turn at a time
  abbrev chained : List (Option ℕ × Item P I) × List (SignificantToken N P) → Option (Items P I × List (SignificantToken N P))
  chained y = Some (chain y.0, y.1)

  row_rest : (k : Cont) (out : Out) (x : Option ℕ × Item P I) (q : Option (List (Option ℕ × Item P I) × List (SignificantToken N P))) → (q >>= λ y. k (out ++ unfolded m (chain (x ∷ y.0))) y.1) ≡ ((q >>= chained) >>= λ y. k ((out ++ item_out x.0 x.1) ++ unfolded m y.0) y.1)
  row_rest k out x None = refl
  row_rest k out x (Some y) = ap (λ z. k z y.1) (ap (λ z. out ++ z) (outs.before m x.0 x.1 (chain y.0)) ∙ sym (append_assoc out (item_out x.0 x.1) (unfolded m (chain y.0))))

  abbrev rows : Reader N P (List (Option ℕ × Item P I))
  rows = (row (item_tests heads) (item ins heads G) (λ x. own_item ins heads x.1)).reads

  row_branch : (k : Cont) (out : Out) (ts : List (SignificantToken N P)) (o : Option Bool) (p : Option ((Option ℕ × Item P I) × List (SignificantToken N P))) →
      (o >>= λ b. cond b (p >>= λ x. rows x.1 >>= λ y. k (out ++ unfolded m (chain (x.0 ∷ y.0))) y.1) (cond (at (NotEnd ∷ []) ts) None (k (out ++ []) ts)))
      ≡ (o >>= λ b. cond b (p >>= λ x. row_then k (out ++ item_out x.0.0 x.0.1) x.1) (cond (at (NotEnd ∷ []) ts) None (k out ts)))
  row_branch k out ts None p = refl
  row_branch k out ts (Some true) None = refl
  row_branch k out ts (Some true) (Some x) = row_rest k out x.0 (rows x.1)
  row_branch k out ts (Some false) p = ap (λ z. cond (at (NotEnd ∷ []) ts) None (k z ts)) (append-nil out)

  pub row_step : (k : Cont) (out : Out) (ts : List (SignificantToken N P)) → row_then k out ts ≡ (ask (item_tests heads) ts >>= λ b. cond b ((item ins heads G).reads ts >>= λ x. row_then k (out ++ item_out x.0.0 x.0.1) x.1) (cond (at (NotEnd ∷ []) ts) None (k out ts)))
  row_step k out ts =
      bind_bind (rows ts) chained (λ x. k (out ++ unfolded m x.0) x.1)
      ∙ row_turns (item_tests heads) (item ins heads G).reads item_shrinks (λ a. k (out ++ unfolded m (chain a.0)) a.1) ts
      ∙ row_branch k out ts (ask (item_tests heads) ts) ((item ins heads G).reads ts)

  -- GROUPS, from their heads on
  abbrev made_group : I → Inside P I → P → Group P I
  made_group i x p = record { head = i; inside = x; close = p }

  abbrev beside : I → Inside P I × List (SignificantToken N P) → Option ((I × Inside P I) × List (SignificantToken N P))
  beside i b = Some ((i, b.0), b.1)

  abbrev fence : I × Inside P I → P × List (SignificantToken N P) → Option (((I × Inside P I) × P) × List (SignificantToken N P))
  fence a c = Some ((a, c.0), c.1)

  abbrev fenced_in : (I × Inside P I) × List (SignificantToken N P) → Option (((I × Inside P I) × P) × List (SignificantToken N P))
  fenced_in a = closed a.1 >>= fence a.0

  abbrev as_group : ((I × Inside P I) × P) × List (SignificantToken N P) → Option (Group P I × List (SignificantToken N P))
  as_group a = Some (group_of ins heads a.0, a.1)

  abbrev with_inside : I × List (SignificantToken N P) → Option ((I × Inside P I) × List (SignificantToken N P))
  with_inside a = (inside ins heads G (heads.kind a.0)).reads a.1 >>= beside a.0

  module _ (F : Group P I × List (SignificantToken N P) → Option (Out × List (SignificantToken N P))) where
    part_close : (i : I) (x : Inside P I) (c : Option (P × List (SignificantToken N P))) → (((c >>= fence (i, x)) >>= as_group) >>= F) ≡ (c >>= λ c. F (made_group i x c.0, c.1))
    part_close i x None = refl
    part_close i x (Some c) = refl

    part_inside : (i : I) (q : Option (Inside P I × List (SignificantToken N P))) → ((((q >>= beside i) >>= fenced_in) >>= as_group) >>= F) ≡ (q >>= λ x. closed x.1 >>= λ c. F (made_group i x.0 c.0, c.1))
    part_inside i None = refl
    part_inside i (Some x) = part_close i x.0 (closed x.1)

    part_ins : (p : Option (I × List (SignificantToken N P))) → ((((p >>= with_inside) >>= fenced_in) >>= as_group) >>= F) ≡ (p >>= λ i. (inside ins heads G (heads.kind i.0)).reads i.1 >>= λ x. closed x.1 >>= λ c. F (made_group i.0 x.0 c.0, c.1))
    part_ins None = refl
    part_ins (Some i) = part_inside i.0 ((inside ins heads G (heads.kind i.0)).reads i.1)

    part_open : (o : Option (P × List (SignificantToken N P))) → (((o >>= λ o. (one o.1 >>= with_inside) >>= fenced_in) >>= as_group) >>= F) ≡ (o >>= λ o. one o.1 >>= λ i. (inside ins heads G (heads.kind i.0)).reads i.1 >>= λ x. closed x.1 >>= λ c. F (made_group i.0 x.0 c.0, c.1))
    part_open None = refl
    part_open (Some o) = part_ins (one o.1)

    group_reads : (us : List (SignificantToken N P)) → (G.reads us >>= F) ≡ (opening us >>= λ o. one o.1 >>= λ i. (inside ins heads G (heads.kind i.0)).reads i.1 >>= λ x. closed x.1 >>= λ c. F (made_group i.0 x.0 c.0, c.1))
    group_reads us = ap (λ z. z >>= F) (fix_reads (group_tests heads) false (group_step ins heads) (group_steps ins heads li heeds) us) ∙ part_open (opening us)

  -- a group with a hint or none, and then k
  module _ (k : Cont) (h : Option ℕ) (out : Out) where
    abbrev pub then_k : Group P I × List (SignificantToken N P) → Option (Out × List (SignificantToken N P))
    then_k g = cond (one_hint (h, Grouped g.0)) (k (out ++ item_out h (Grouped g.0)) g.1) None

    -- operands
    operand_close : (i : I) (x : Items P I) (g : Option ℕ) → h ≡ g → (c : Option (P × List (SignificantToken N P))) → (c >>= λ c. then_k (made_group i (Operand x) c.0, c.1)) ≡ (c >>= λ c. k ((out ++ unfolded m x) ++ (h, i) ∷ []) c.1)
    operand_close i x g e None = refl
    operand_close i x None e (Some c) = rw e (ap (λ z. k z c.1) (sym (append_assoc out (unfolded m x) ((None, i) ∷ []))))
    operand_close i x (Some v) e (Some c) = rw e (ap (λ z. k z c.1) (sym (append_assoc out (unfolded m x) ((Some v, i) ∷ []))))

    abbrev seen_operand : Items P I × List (SignificantToken N P) → Option (Inside P I × List (SignificantToken N P))
    seen_operand x = Some (Operand x.0, x.1)

    operand_part : (i : I) (q : Option (Items P I × List (SignificantToken N P))) → ((q >>= seen_operand) >>= λ x. closed x.1 >>= λ c. then_k (made_group i x.0 c.0, c.1)) ≡ (q >>= λ x. closed x.1 >>= λ c. k ((out ++ unfolded m x.0) ++ (h, i) ∷ []) c.1)
    operand_part i None = refl
    operand_part i (Some x) = operand_close i x.0 h refl (closed x.1)

    -- a block's body
    body_close : (i : I) (x : Items P I) (g : Option ℕ) → h ≡ g → (c : Option (P × List (SignificantToken N P))) → (c >>= λ c. then_k (made_group i (Body x) c.0, c.1)) ≡ (c >>= λ c. k (((out ++ (h, i) ∷ []) ++ unfolded m x) ++ end_of c.0) c.1)
    body_close i x g e None = refl
    body_close i x None e (Some c) = rw e (ap (λ z. k z c.1) (simp append_assoc))
    body_close i x (Some v) e (Some c) = rw e (ap (λ z. k z c.1) (simp append_assoc))

    abbrev seen_body : Items P I × List (SignificantToken N P) → Option (Inside P I × List (SignificantToken N P))
    seen_body x = Some (Body x.0, x.1)

    body_part : (i : I) (q : Option (Items P I × List (SignificantToken N P))) → ((q >>= seen_body) >>= λ x. closed x.1 >>= λ c. then_k (made_group i x.0 c.0, c.1)) ≡ (q >>= λ x. closed x.1 >>= λ c. k (((out ++ (h, i) ∷ []) ++ unfolded m x.0) ++ end_of c.0) c.1)
    body_part i None = refl
    body_part i (Some x) = body_close i x.0 h refl (closed x.1)

    -- arms
    abbrev Parts : Type 0
    Parts = List (Group P I) × (Option ℕ × (Items P I × Option (P × Items P I)))

    abbrev with_else : Items P I → Option (P × Items P I) × List (SignificantToken N P) → Option ((Items P I × Option (P × Items P I)) × List (SignificantToken N P))
    with_else y e = Some ((y, e.0), e.1)

    abbrev with_body : Items P I × List (SignificantToken N P) → Option ((Items P I × Option (P × Items P I)) × List (SignificantToken N P))
    with_body y = may_else y.1 >>= with_else y.0

    abbrev with_second : Option ℕ → (Items P I × Option (P × Items P I)) × List (SignificantToken N P) → Option ((Option ℕ × (Items P I × Option (P × Items P I))) × List (SignificantToken N P))
    with_second g z = Some ((g, z.0), z.1)

    abbrev with_hint : Option ℕ × List (SignificantToken N P) → Option ((Option ℕ × (Items P I × Option (P × Items P I))) × List (SignificantToken N P))
    with_hint g = (then_reads g.1 >>= with_body) >>= with_second g.0

    abbrev with_first : List (Group P I) → (Option ℕ × (Items P I × Option (P × Items P I))) × List (SignificantToken N P) → Option (Parts × List (SignificantToken N P))
    with_first c z = Some ((c, z.0), z.1)

    abbrev with_conditions : List (Group P I) × List (SignificantToken N P) → Option (Parts × List (SignificantToken N P))
    with_conditions c = (may_hint c.1 >>= with_hint) >>= with_first c.0

    abbrev seen_arms : Parts × List (SignificantToken N P) → Option (Inside P I × List (SignificantToken N P))
    seen_arms a = Some (arms_of ins heads a.0, a.1)

    abbrev then_close : I → Inside P I × List (SignificantToken N P) → Option (Out × List (SignificantToken N P))
    then_close i x = closed x.1 >>= λ c. then_k (made_group i x.0 c.0, c.1)

    abbrev out_of : List (Group P I) → Option ℕ → I → Items P I → Out
    out_of c g i y = ((out ++ unfolded m (groups_chain c)) ++ (either_hint h g, i) ∷ []) ++ unfolded m y

    -- one place has a hint at most
    single : (i : I) (c : List (Group P I)) (g : Option ℕ) (y : Items P I) (e : Option (P × Items P I)) (p : P) → both_hints h g ≡ false → one_hint {P = P} {I = I} (h, Grouped (made_group i (Arms (groups_chain c) g y e) p)) ≡ true
    single i c g y e p n = go h g n
      where
        go : (h g : Option ℕ) → both_hints h g ≡ false → one_hint {P = P} {I = I} (h, Grouped (made_group i (Arms (groups_chain c) g y e) p)) ≡ true
        go None g n = refl
        go (Some v) None n = refl
        go (Some v) (Some u) n = cc

    double : (i : I) (c : List (Group P I)) (g : Option ℕ) (y : Items P I) (e : Option (P × Items P I)) (p : P) → both_hints h g ≡ true → one_hint {P = P} {I = I} (h, Grouped (made_group i (Arms (groups_chain c) g y e) p)) ≡ false
    double i c g y e p n = go h g n
      where
        go : (h g : Option ℕ) → both_hints h g ≡ true → one_hint {P = P} {I = I} (h, Grouped (made_group i (Arms (groups_chain c) g y e) p)) ≡ false
        go None None n = cc
        go None (Some u) n = cc
        go (Some v) None n = cc
        go (Some v) (Some u) n = refl

    arms_close : (i : I) (c : List (Group P I)) (g : Option ℕ) (y : Items P I) → both_hints h g ≡ false → (e : Option (P × Items P I)) (d : Option (P × List (SignificantToken N P))) (r : List (SignificantToken N P)) → closed r ≡ d → (d >>= λ d. then_k (made_group i (Arms (groups_chain c) g y e) d.0, d.1)) ≡ mid_close k (out_of c g i y) e r
    arms_close i c g y n None None r q = rw q refl
    arms_close i c g y n (Some f) None r q = rw q refl
    arms_close i c g y n None (Some d) r q = rw (q, single i c g y None d.0 n) (ap (λ z. k z d.1) (simp append_assoc))
    arms_close i c g y n (Some f) (Some d) r q = rw (q, single i c g y (Some f) d.0 n) (ap (λ z. k z d.1) (simp append_assoc))

    arms_else : (i : I) (c : List (Group P I)) (g : Option ℕ) (y : Items P I) → both_hints h g ≡ false → (e : Option (Option (P × Items P I) × List (SignificantToken N P))) → (((((e >>= with_else y) >>= with_second g) >>= with_first c) >>= seen_arms) >>= then_close i) ≡ (e >>= λ e. mid_close k (out_of c g i y) e.0 e.1)
    arms_else i c g y n None = refl
    arms_else i c g y n (Some e) = arms_close i c g y n e.0 (closed e.1) e.1 refl

    arms_body : (i : I) (c : List (Group P I)) (g : Option ℕ) → both_hints h g ≡ false → (y : Option (Items P I × List (SignificantToken N P))) → (((((y >>= with_body) >>= with_second g) >>= with_first c) >>= seen_arms) >>= then_close i) ≡ (y >>= λ y. mid_then k (out_of c g i y.0) y.1)
    arms_body i c g n None = refl
    arms_body i c g n (Some y) = arms_else i c g y.0 n (may_else y.1)

    never_close : (i : I) (c : List (Group P I)) (g : Option ℕ) (y : Items P I) (e : Option (P × Items P I)) → both_hints h g ≡ true → (d : Option (P × List (SignificantToken N P))) → (d >>= λ d. then_k (made_group i (Arms (groups_chain c) g y e) d.0, d.1)) ≡ None
    never_close i c g y e n None = refl
    never_close i c g y e n (Some d) = rw (double i c g y e d.0 n) refl

    never_else : (i : I) (c : List (Group P I)) (g : Option ℕ) (y : Items P I) → both_hints h g ≡ true → (e : Option (Option (P × Items P I) × List (SignificantToken N P))) → (((((e >>= with_else y) >>= with_second g) >>= with_first c) >>= seen_arms) >>= then_close i) ≡ None
    never_else i c g y n None = refl
    never_else i c g y n (Some e) = never_close i c g y e.0 n (closed e.1)

    never_body : (i : I) (c : List (Group P I)) (g : Option ℕ) → both_hints h g ≡ true → (y : Option (Items P I × List (SignificantToken N P))) → (((((y >>= with_body) >>= with_second g) >>= with_first c) >>= seen_arms) >>= then_close i) ≡ None
    never_body i c g n None = refl
    never_body i c g n (Some y) = never_else i c g y.0 n (may_else y.1)

    arms_second : (i : I) (c : List (Group P I)) (g : Option ℕ × List (SignificantToken N P)) (b : Bool) → both_hints h g.0 ≡ b → ((((with_hint g) >>= with_first c) >>= seen_arms) >>= then_close i) ≡ cond b None (then_reads g.1 >>= λ y. mid_then k (out_of c g.0 i y.0) y.1)
    arms_second i c g true n = never_body i c g.0 n (then_reads g.1)
    arms_second i c g false n = arms_body i c g.0 n (then_reads g.1)

    arms_hint : (i : I) (c : List (Group P I)) (g : Option (Option ℕ × List (SignificantToken N P))) → ((((g >>= with_hint) >>= with_first c) >>= seen_arms) >>= then_close i) ≡ (g >>= λ g. cond (both_hints h g.0) None (then_reads g.1 >>= λ y. mid_then k (out_of c g.0 i y.0) y.1))
    arms_hint i c None = refl
    arms_hint i c (Some g) = arms_second i c g (both_hints h g.0) refl

    arms_part : (i : I) (q : Option (List (Group P I) × List (SignificantToken N P))) → (((q >>= with_conditions) >>= seen_arms) >>= then_close i) ≡ (q >>= λ c. arms_then h i k (out ++ unfolded m (groups_chain c.0)) c.1)
    arms_part i None = refl
    arms_part i (Some c) = arms_hint i c.0 (may_hint c.1)

    -- what is read behind a head is what is read with its level on top
    abbrev pub headed_then : GroupKind → I → List (SignificantToken N P) → Option (Out × List (SignificantToken N P))
    headed_then OfOperands i r = level_then (EndWith h i) k out r
    headed_then OfBlock i r = level_then BlockEnd k (out ++ (h, i) ∷ []) r
    headed_then OfArms i r = level_then (Conditions h i) k out r

    inside_then : (kind : GroupKind) (i : I) (r : List (SignificantToken N P)) → ((inside ins heads G kind).reads r >>= then_close i) ≡ headed_then kind i r
    inside_then OfOperands i r = operand_part i (all_items r)
    inside_then OfBlock i r = body_part i (all_items r)
    inside_then OfArms i r = arms_part i ((many (group_tests heads) G).reads r)

    head_part : (p : Option (I × List (SignificantToken N P))) → (p >>= λ i. (inside ins heads G (heads.kind i.0)).reads i.1 >>= then_close i.0) ≡ (p >>= λ i. headed_then (heads.kind i.0) i.0 i.1)
    head_part None = refl
    head_part (Some i) = inside_then (heads.kind i.0) i.0 i.1

    open_part : (o : Option (P × List (SignificantToken N P))) → (o >>= λ o. one o.1 >>= λ i. (inside ins heads G (heads.kind i.0)).reads i.1 >>= then_close i.0) ≡ (o >>= λ o. one o.1 >>= λ i. headed_then (heads.kind i.0) i.0 i.1)
    open_part None = refl
    open_part (Some o) = head_part (one o.1)

    pub group_then : (us : List (SignificantToken N P)) → (G.reads us >>= then_k) ≡ (opening us >>= λ o. one o.1 >>= λ i. headed_then (heads.kind i.0) i.0 i.1)
    group_then us = group_reads then_k us ∙ open_part (opening us)
