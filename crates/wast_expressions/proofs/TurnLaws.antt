-- Each turn of the loop leaves the outcome as it is, whatever stands below the stack.
use Rattle.std.specs.Prelude.{codes}
use Rattle.std.proofs.Common.{◌≡◌, ℕ, Bool, true, false, List, [], ◌∷◌, ◌++◌, Option, Some, None, refl, sym, ◌∙◌, ap, cond, append_assoc, append-nil}
use Rattle.wast_grammar.specs.Tokens.{SignificantToken}
use Rattle.wast_grammar.specs.Spelling.{◌>>=◌, that_open, that_close, that_one}
use Rattle.wast_grammar.specs.Look.{NotEnd, at, ask}
use Rattle.wast_grammar.specs.Grammar.{Syntax, Reader, maybe, many, group, paren, seq, word, one_of}
use Rattle.wast_grammar.specs.Lawful.{LawfulBut}
use Rattle.wast_expressions.specs.Items.{Items, Made, unfolded, either_hint}
use Rattle.wast_expressions.specs.Expressions.{GroupKind, OfOperands, OfBlock, OfArms, Heads, hint_tests, hint, Group, Item, Alone, Grouped, groups_chain, one_hint, ins_tests, group_tests, item_tests, else_tests, one_ins, item, items_over, groups, items}
use Rattle.wast_expressions.specs.Heeds.{Heeds}
use Rattle.wast_expressions.specs.Machine.{Level, EndWith, BlockEnd, Conditions, Arm, AfterThen, AfterElse, State, state, both_hints, headed, open_group, one_item, close_items, then_turn, else_turn, end_turn, turn}
use Rattle.wast_expressions.proofs.ReadLaws.{bind_cond, many_turns, no_close}
use Rattle.wast_expressions.proofs.MachineLaws as laws
use Rattle.wast_expressions.proofs.Outs as outs

module _ {N P I : Type 0} (ins : Syntax N P I) (heads : Heads I) (m : Made P I) (li : LawfulBut (one_ins ins heads) heads.own) (heeds : Heeds heads) (bottom : List (Option ℕ × I) → List (SignificantToken N P) → Option (List (Option ℕ × I) × List (SignificantToken N P))) where
  abbrev Out : Type 0
  Out = List (Option ℕ × I)

  abbrev Toks : Type 0
  Toks = List (SignificantToken N P)

  abbrev finish : List (Level I) → Out → Toks → Option (Out × Toks)
  finish st = laws.finish_from ins heads m li heeds bottom st

  abbrev outcome : State N P I → Option (Out × Toks)
  outcome s = finish s.stack s.out s.rest

  abbrev G : Syntax N P (Group P I)
  G = groups ins heads

  abbrev one : Reader N P I
  one = (one_ins ins heads).reads

  abbrev may_hint : Reader N P (Option ℕ)
  may_hint = (maybe hint_tests hint).reads

  abbrev all_items : Reader N P (Items P I)
  all_items = (items ins heads).reads

  abbrev opening : Reader N P P
  opening ts = one_of that_open ts

  abbrev closed : Reader N P P
  closed ts = one_of that_close ts

  abbrev the_word : List ℕ → Reader N P P
  the_word v ts = one_of (that_one v) ts

  abbrev item_out : Option ℕ → Item P I → Out
  item_out h x = outs.item_out m h x

  -- GROUPS
  head_outcome : (kind : GroupKind) (st : List (Level I)) (out : Out) (h : Option ℕ) (i : I) (r : Toks) → outcome (headed ins heads m kind st out h i r) ≡ laws.headed_then ins heads m li heeds (finish st) h out kind i r
  head_outcome OfOperands st out h i r = refl
  head_outcome OfBlock st out h i r = refl
  head_outcome OfArms st out h i r = refl

  open_ins : (st : List (Level I)) (out : Out) (h : Option ℕ) (p : Option (I × Toks)) → ((p >>= λ i. Some (headed ins heads m (heads.kind i.0) st out h i.0 i.1)) >>= outcome) ≡ (p >>= λ i. laws.headed_then ins heads m li heeds (finish st) h out (heads.kind i.0) i.0 i.1)
  open_ins st out h None = refl
  open_ins st out h (Some i) = head_outcome (heads.kind i.0) st out h i.0 i.1

  open_outcome : (st : List (Level I)) (out : Out) (h : Option ℕ) (o : Option (P × Toks)) → ((o >>= λ o. one o.1 >>= λ i. Some (headed ins heads m (heads.kind i.0) st out h i.0 i.1)) >>= outcome) ≡ (o >>= λ o. one o.1 >>= λ i. laws.headed_then ins heads m li heeds (finish st) h out (heads.kind i.0) i.0 i.1)
  open_outcome st out h None = refl
  open_outcome st out h (Some o) = open_ins st out h (one o.1)

  group_turn : (st : List (Level I)) (out : Out) (h : Option ℕ) (us : Toks) → (G.reads us >>= laws.then_k ins heads m li heeds (finish st) h out) ≡ (open_group ins heads m st out h us >>= outcome)
  group_turn st out h us = laws.group_then ins heads m li heeds (finish st) h out us ∙ sym (open_outcome st out h (opening us))

  -- ITEMS
  module _ (st : List (Level I)) (out : Out) where
    abbrev after : (Option ℕ × Item P I) × Toks → Option (Out × Toks)
    after x = finish st (out ++ item_out x.0.0 x.0.1) x.1

    abbrev seen_alone : I × Toks → Option (Item P I × Toks)
    seen_alone i = Some (Alone i.0, i.1)

    abbrev seen_grouped : Group P I × Toks → Option (Item P I × Toks)
    seen_grouped g = Some (Grouped g.0, g.1)

    abbrev hinted : Option ℕ → Item P I × Toks → Option ((Option ℕ × Item P I) × Toks)
    hinted h x = Some ((h, x.0), x.1)

    abbrev checked : (Option ℕ × Item P I) × Toks → Option ((Option ℕ × Item P I) × Toks)
    checked a = cond (one_hint a.0) (Some a) None

    abbrev put : Option ℕ → I × Toks → Option (State N P I)
    put h i = Some (state st (out ++ (h, i.0) ∷ []) i.1)

    alone_part : (h : Option ℕ) (p : Option (I × Toks)) → ((((p >>= seen_alone) >>= hinted h) >>= checked) >>= after) ≡ ((p >>= put h) >>= outcome)
    alone_part h None = refl
    alone_part None (Some i) = refl
    alone_part (Some v) (Some i) = refl

    grouped_part : (h : Option ℕ) (q : Option (Group P I × Toks)) → ((((q >>= seen_grouped) >>= hinted h) >>= checked) >>= after) ≡ (q >>= laws.then_k ins heads m li heeds (finish st) h out)
    grouped_part h None = refl
    grouped_part h (Some g) = bind_cond (one_hint (h, Grouped g.0)) (Some ((h, Grouped g.0), g.1)) None after

    either_part : (h : Option ℕ × Toks) (a : Option Bool) → ((((a >>= λ b. cond b (one h.1 >>= seen_alone) (G.reads h.1 >>= seen_grouped)) >>= hinted h.0) >>= checked) >>= after) ≡ ((a >>= λ b. cond b (one h.1 >>= put h.0) (open_group ins heads m st out h.0 h.1)) >>= outcome)
    either_part h None = refl
    either_part h (Some true) = alone_part h.0 (one h.1)
    either_part h (Some false) = grouped_part h.0 (G.reads h.1) ∙ group_turn st out h.0 h.1

    abbrev reads_one : Option ℕ × Toks → Option ((Option ℕ × Item P I) × Toks)
    reads_one h = (ask (ins_tests heads) h.1 >>= λ b. cond b (one h.1 >>= seen_alone) (G.reads h.1 >>= seen_grouped)) >>= hinted h.0

    hint_part : (q : Option (Option ℕ × Toks)) → (((q >>= reads_one) >>= checked) >>= after) ≡ ((q >>= λ h. ask (ins_tests heads) h.1 >>= λ b. cond b (one h.1 >>= put h.0) (open_group ins heads m st out h.0 h.1)) >>= outcome)
    hint_part None = refl
    hint_part (Some h) = either_part h (ask (ins_tests heads) h.1)

    item_turn : (ts : Toks) → ((item ins heads G).reads ts >>= after) ≡ (one_item ins heads m st out ts >>= outcome)
    item_turn ts = hint_part (may_hint ts)

  close_part : (F : P × Toks → State N P I) (c : Option (P × Toks)) → (c >>= λ c. outcome (F c)) ≡ ((c >>= λ c. Some (F c)) >>= outcome)
  close_part F None = refl
  close_part F (Some c) = refl

  -- where items stand
  pub row_part : (st : List (Level I)) (out : Out) (ts : Toks) (o : Option Bool) (X : Option (Out × Toks)) → X ≡ (close_items ins heads m st out ts >>= outcome) → (o >>= λ b. cond b ((item ins heads G).reads ts >>= after st out) X) ≡ ((o >>= λ b. cond b (one_item ins heads m st out ts) (close_items ins heads m st out ts)) >>= outcome)
  row_part st out ts None X e = refl
  row_part st out ts (Some true) X e = item_turn st out ts
  row_part st out ts (Some false) X e = e

  -- ARMS
  abbrev pair_word : P → Items P I × Toks → Option ((P × Items P I) × Toks)
  pair_word w b = Some ((w, b.0), b.1)

  abbrev behind_word : P × Toks → Option ((P × Items P I) × Toks)
  behind_word w = all_items w.1 >>= pair_word w.0

  abbrev second_of : (P × Items P I) × Toks → Option (Items P I × Toks)
  second_of a = Some (a.0.1, a.1)

  abbrev keep : {A : Type 0} → A → P × Toks → Option (A × Toks)
  keep a c = Some (a, c.1)

  abbrev fence_off : {A : Type 0} → A × Toks → Option (A × Toks)
  fence_off a = closed a.1 >>= keep a.0

  module _ (K : Out → Toks → Option (Out × Toks)) (out : Out) where
    abbrev arm_then : P × Toks → Option (Out × Toks)
    arm_then w = all_items w.1 >>= λ x. closed x.1 >>= λ c. K (out ++ unfolded m x.0) c.1

    abbrev body_then : Items P I × Toks → Option (Out × Toks)
    body_then y = K (out ++ unfolded m y.0) y.1

    then_closed : (x : Items P I) (c : Option (P × Toks)) → ((c >>= keep x) >>= body_then) ≡ (c >>= λ c. K (out ++ unfolded m x) c.1)
    then_closed x None = refl
    then_closed x (Some c) = refl

    then_items : (w : P) (q : Option (Items P I × Toks)) → ((((q >>= pair_word w) >>= second_of) >>= fence_off) >>= body_then) ≡ (q >>= λ x. closed x.1 >>= λ c. K (out ++ unfolded m x.0) c.1)
    then_items w None = refl
    then_items w (Some x) = then_closed x.0 (closed x.1)

    then_word : (p : Option (P × Toks)) → ((((p >>= behind_word) >>= second_of) >>= fence_off) >>= body_then) ≡ (p >>= arm_then)
    then_word None = refl
    then_word (Some w) = then_items w.0 (all_items w.1)

    abbrev arm_of : P × Toks → Option (Items P I × Toks)
    arm_of o = ((the_word (codes "then") o.1 >>= behind_word) >>= second_of) >>= fence_off

    then_open : (o : Option (P × Toks)) → ((o >>= arm_of) >>= body_then) ≡ (o >>= λ o. the_word (codes "then") o.1 >>= arm_then)
    then_open None = refl
    then_open (Some o) = then_word (the_word (codes "then") o.1)

  -- the else arm
  module _ (K : Option (P × Items P I) → Toks → Option (Out × Toks)) where
    abbrev some_else : (P × Items P I) × Toks → Option (Option (P × Items P I) × Toks)
    some_else a = Some (Some a.0, a.1)

    abbrev else_then : Option (P × Items P I) × Toks → Option (Out × Toks)
    else_then e = K e.0 e.1

    else_closed : (w : P) (x : Items P I) (c : Option (P × Toks)) → (((c >>= keep (w, x)) >>= some_else) >>= else_then) ≡ (c >>= λ c. K (Some (w, x)) c.1)
    else_closed w x None = refl
    else_closed w x (Some c) = refl

    else_items : (w : P) (q : Option (Items P I × Toks)) → ((((q >>= pair_word w) >>= fence_off) >>= some_else) >>= else_then) ≡ (q >>= λ x. closed x.1 >>= λ c. K (Some (w, x.0)) c.1)
    else_items w None = refl
    else_items w (Some x) = else_closed w x.0 (closed x.1)

    else_word : (p : Option (P × Toks)) → ((((p >>= behind_word) >>= fence_off) >>= some_else) >>= else_then) ≡ (p >>= λ w. all_items w.1 >>= λ x. closed x.1 >>= λ c. K (Some (w.0, x.0)) c.1)
    else_word None = refl
    else_word (Some w) = else_items w.0 (all_items w.1)

    else_open : (o : Option (P × Toks)) → (((o >>= λ o. (the_word (codes "else") o.1 >>= behind_word) >>= fence_off) >>= some_else) >>= else_then) ≡ (o >>= λ o. the_word (codes "else") o.1 >>= λ w. all_items w.1 >>= λ x. closed x.1 >>= λ c. K (Some (w.0, x.0)) c.1)
    else_open None = refl
    else_open (Some o) = else_word (the_word (codes "else") o.1)

  -- TURNS
  abbrev mid_close : (Out → Toks → Option (Out × Toks)) → Out → Option (P × Items P I) → Toks → Option (Out × Toks)
  mid_close k out e r = laws.mid_close ins heads m li heeds k out e r

  abbrev else_state : List (Level I) → Out → P × Toks → Option (State N P I)
  else_state st out w = Some (state (Arm ∷ AfterElse ∷ st) (out ++ (None, m.else_at w.0) ∷ []) w.1)

  else_states : (st : List (Level I)) (out : Out) (o : Option (P × Toks)) → (o >>= λ o. the_word (codes "else") o.1 >>= λ w. all_items w.1 >>= λ x. closed x.1 >>= λ c. mid_close (finish st) out (Some (w.0, x.0)) c.1) ≡ ((o >>= λ o. the_word (codes "else") o.1 >>= else_state st out) >>= outcome)
  else_states st out None = refl
  else_states st out (Some o) = go (the_word (codes "else") o.1)
    where
      go : (p : Option (P × Toks)) → (p >>= λ w. all_items w.1 >>= λ x. closed x.1 >>= λ c. mid_close (finish st) out (Some (w.0, x.0)) c.1) ≡ ((p >>= else_state st out) >>= outcome)
      go None = refl
      go (Some w) = refl

  mid_turn : (st : List (Level I)) (out : Out) (ts : Toks) (a : Option Bool) → ((a >>= λ b. cond b ((paren (seq (word (codes "else")) (items_over ins heads G))).reads ts >>= some_else (mid_close (finish st) out)) (Some (None, ts))) >>= else_then (mid_close (finish st) out)) ≡ ((a >>= λ b. cond b (else_turn ins heads m st out ts) (end_turn ins heads m st out ts)) >>= outcome)
  mid_turn st out ts None = refl
  mid_turn st out ts (Some true) = else_open (mid_close (finish st) out) (opening ts) ∙ else_states st out (opening ts)
  mid_turn st out ts (Some false) = close_part (λ c. state st (out ++ (None, m.end_at c.0) ∷ []) c.1) (closed ts)

  -- the conditions
  abbrev arm_state : List (Level I) → Out → P × Toks → Option (State N P I)
  arm_state st out w = Some (state (Arm ∷ AfterThen ∷ st) out w.1)

  abbrev mid_then : (Out → Toks → Option (Out × Toks)) → Out → Toks → Option (Out × Toks)
  mid_then k out ts = laws.mid_then ins heads m li heeds k out ts

  arm_states : (st : List (Level I)) (out : Out) (o : Option (P × Toks)) → (o >>= λ o. the_word (codes "then") o.1 >>= arm_then (mid_then (finish st)) out) ≡ ((o >>= λ o. the_word (codes "then") o.1 >>= arm_state st out) >>= outcome)
  arm_states st out None = refl
  arm_states st out (Some o) = go (the_word (codes "then") o.1)
    where
      go : (p : Option (P × Toks)) → (p >>= arm_then (mid_then (finish st)) out) ≡ ((p >>= arm_state st out) >>= outcome)
      go None = refl
      go (Some w) = refl

  hints_part : (h : Option ℕ) (i : I) (st : List (Level I)) (out : Out) (g : Option ℕ × Toks) (b : Bool) → cond b None ((group (codes "then") (items_over ins heads G)).reads g.1 >>= body_then (mid_then (finish st)) (out ++ (either_hint h g.0, i) ∷ [])) ≡ (cond b None (opening g.1 >>= λ o. the_word (codes "then") o.1 >>= arm_state st (out ++ (either_hint h g.0, i) ∷ [])) >>= outcome)
  hints_part h i st out g true = refl
  hints_part h i st out g false = then_open (mid_then (finish st)) (out ++ (either_hint h g.0, i) ∷ []) (opening g.1) ∙ arm_states st (out ++ (either_hint h g.0, i) ∷ []) (opening g.1)

  then_hint : (h : Option ℕ) (i : I) (st : List (Level I)) (out : Out) (q : Option (Option ℕ × Toks)) → (q >>= λ g. cond (both_hints h g.0) None ((group (codes "then") (items_over ins heads G)).reads g.1 >>= body_then (mid_then (finish st)) (out ++ (either_hint h g.0, i) ∷ []))) ≡ ((q >>= λ g. cond (both_hints h g.0) None (opening g.1 >>= λ o. the_word (codes "then") o.1 >>= arm_state st (out ++ (either_hint h g.0, i) ∷ []))) >>= outcome)
  then_hint h i st out None = refl
  then_hint h i st out (Some g) = hints_part h i st out g (both_hints h g.0)

  abbrev arms_then : Option ℕ → I → List (Level I) → Out → Toks → Option (Out × Toks)
  arms_then h i st out ts = laws.arms_then ins heads m li heeds h i (finish st) out ts

  conds_more : (h : Option ℕ) (i : I) (st : List (Level I)) (out : Out) (g : Group P I) (q : Option (List (Group P I) × Toks)) → (q >>= λ y. arms_then h i st (out ++ unfolded m (groups_chain (g ∷ y.0))) y.1) ≡ (q >>= λ y. arms_then h i st ((out ++ item_out None (Grouped g)) ++ unfolded m (groups_chain y.0)) y.1)
  conds_more h i st out g None = refl
  conds_more h i st out g (Some y) = ap (λ z. arms_then h i st z y.1) (ap (λ z. out ++ z) (outs.group_before m None g.head g.inside g.close (groups_chain y.0)) ∙ sym (append_assoc out (item_out None (Grouped g)) (unfolded m (groups_chain y.0))))

  conds_branch : (h : Option ℕ) (i : I) (st : List (Level I)) (out : Out) (ts : Toks) (a : Option Bool) (p : Option (Group P I × Toks)) → G.reads ts ≡ p →
      (a >>= λ b. cond b (p >>= λ x. (many (group_tests heads) G).reads x.1 >>= λ y. arms_then h i st (out ++ unfolded m (groups_chain (x.0 ∷ y.0))) y.1) (arms_then h i st (out ++ []) ts))
      ≡ ((a >>= λ b. cond b (open_group ins heads m (Conditions h i ∷ st) out None ts) (then_turn ins heads m h i st out ts)) >>= outcome)
  conds_branch h i st out ts None p e = refl
  conds_branch h i st out ts (Some false) p e = ap (λ z. arms_then h i st z ts) (append-nil out) ∙ then_hint h i st out (may_hint ts)
  conds_branch h i st out ts (Some true) None e = ap (λ z. z >>= laws.then_k ins heads m li heeds (finish (Conditions h i ∷ st)) None out) (sym e) ∙ group_turn (Conditions h i ∷ st) out None ts
  conds_branch h i st out ts (Some true) (Some x) e = conds_more h i st out x.0 ((many (group_tests heads) G).reads x.1) ∙ ap (λ z. z >>= laws.then_k ins heads m li heeds (finish (Conditions h i ∷ st)) None out) (sym e) ∙ group_turn (Conditions h i ∷ st) out None ts

  -- ONE TURN where a group is open, whatever stands below the stack
  pub level_outcome : (l : Level I) (st : List (Level I)) (out : Out) (ts : Toks) → finish (l ∷ st) out ts ≡ (turn ins heads m (l ∷ st) out ts >>= outcome)
  level_outcome (EndWith h i) st out ts =
      laws.row_step ins heads m li heeds (λ o r. closed r >>= λ c. finish st (o ++ (h, i) ∷ []) c.1) out ts
      ∙ row_part (EndWith h i ∷ st) out ts (ask (item_tests heads) ts) _ (no_close ts (λ c. finish st (out ++ (h, i) ∷ []) c.1) (at (NotEnd ∷ []) ts) refl ∙ close_part (λ c. state st (out ++ (h, i) ∷ []) c.1) (closed ts))
  level_outcome BlockEnd st out ts =
      laws.row_step ins heads m li heeds (λ o r. closed r >>= λ c. finish st (o ++ (None, m.end_at c.0) ∷ []) c.1) out ts
      ∙ row_part (BlockEnd ∷ st) out ts (ask (item_tests heads) ts) _ (no_close ts (λ c. finish st (out ++ (None, m.end_at c.0) ∷ []) c.1) (at (NotEnd ∷ []) ts) refl ∙ close_part (λ c. state st (out ++ (None, m.end_at c.0) ∷ []) c.1) (closed ts))
  level_outcome Arm st out ts =
      laws.row_step ins heads m li heeds (λ o r. closed r >>= λ c. finish st o c.1) out ts
      ∙ row_part (Arm ∷ st) out ts (ask (item_tests heads) ts) _ (no_close ts (λ c. finish st out c.1) (at (NotEnd ∷ []) ts) refl ∙ close_part (λ c. state st out c.1) (closed ts))
  level_outcome (Conditions h i) st out ts =
      many_turns (group_tests heads) G.reads (laws.groups_shrink ins heads m li heeds) (λ c. arms_then h i st (out ++ unfolded m (groups_chain c.0)) c.1) ts
      ∙ conds_branch h i st out ts (ask (group_tests heads) ts) (G.reads ts) refl
  level_outcome AfterThen st out ts = mid_turn st out ts (ask else_tests ts)
  level_outcome AfterElse st out ts = close_part (λ c. state st (out ++ (None, m.end_at c.0) ∷ []) c.1) (closed ts)
