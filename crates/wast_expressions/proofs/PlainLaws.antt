-- (ins plain*) is read by a loop too: a stack of the instructions whose operands are not yet all read.
use Rattle.std.proofs.Common.{◌≡◌, ℕ, suc, map, ◌<◌, Bool, true, false, List, [], ◌∷◌, ◌++◌, length, Option, Some, None, refl, sym, ◌∙◌, ap, cond, append_assoc, append-nil}
use Rattle.wast_grammar.specs.Tokens.{SignificantToken}
use Rattle.wast_grammar.specs.Spelling.{◌>>=◌, that_open, that_close}
use Rattle.wast_grammar.specs.Look.{NotEnd, at, ask}
use Rattle.wast_grammar.specs.Grammar.{Syntax, Reader, seen, one_of}
use Rattle.wast_grammar.specs.Behind.{row}
use Rattle.wast_grammar.specs.Lawful.{LawfulBut}
use Rattle.wast_expressions.specs.Expressions.{Heads, group_tests, one_ins, all_of, plain_of, plain_step, plain, without_hints}
use Rattle.wast_expressions.specs.Items.{Made, expression_of, hints_from}
use Rattle.wast_expressions.specs.Heeds.{Heeds}
use Rattle.wast_expressions.specs.Machine.{EndWith, State, state, folded_head, plain_turn}
use Rattle.std.proofs.lemmas.List.{map-append}
use Rattle.std.proofs.lemmas.Option.{same_Some}
use Rattle.wast_grammar.proofs.GrammarLaws.{shrinks}
use Rattle.wast_expressions.proofs.ExpressionLaws.{plain_laws, plain_steps}
use Rattle.wast_expressions.proofs.PlainOutcome as spec
use Rattle.wast_expressions.proofs.PlainOutcome.{levels, outs, Standing}
use Rattle.wast_expressions.proofs.ReadLaws.{row_turns, fix_reads, no_close}

-- the loop, over instructions alone
pub record PlainState (N P I : Type 0) : Type 0 where
  pub stack : List I
  pub out : List I
  pub rest : List (SignificantToken N P)

abbrev pub plain_state : {N P I : Type 0} → List I → List I → List (SignificantToken N P) → PlainState N P I
plain_state st out ts = record { stack = st; out = out; rest = ts }

module _ {N P I : Type 0} (ins : Syntax N P I) (heads : Heads I) (li : LawfulBut (one_ins ins heads) heads.own) (heeds : Heeds heads) where
  abbrev Toks : Type 0
  Toks = List (SignificantToken N P)

  abbrev Cont : Type 0
  Cont = List I → Toks → Option (List I × Toks)

  abbrev one : Reader N P I
  one = (one_ins ins heads).reads

  abbrev closed : Reader N P P
  closed ts = one_of that_close ts

  abbrev Plain : Syntax N P (List I)
  Plain = plain ins heads

  abbrev operands : Reader N P (List (List I))
  operands = (row (group_tests heads) Plain (λ _. [])).reads

  abbrev operands_then : I → Cont → Cont
  operands_then i k out ts = spec.operands_then ins heads i k out ts

  abbrev finish : List I → Cont
  finish st out ts = spec.finish ins heads st out ts

  abbrev open_next : List I → List I → Toks → Option (PlainState N P I)
  open_next st out ts = one_of that_open ts >>= λ o. one o.1 >>= λ i. Some (plain_state (i.0 ∷ st) out i.1)

  abbrev close_next : I → List I → List I → Toks → Option (PlainState N P I)
  close_next i st out ts = closed ts >>= λ c. Some (plain_state st (out ++ i ∷ []) c.1)

  abbrev pub next_turn : List I → List I → Toks → Option (PlainState N P I)
  next_turn [] out ts = None
  next_turn (i ∷ st) out ts = ask (group_tests heads) ts >>= λ b. cond b (open_next (i ∷ st) out ts) (close_next i st out ts)

  abbrev pub outcome : PlainState N P I → Option (List I × Toks)
  outcome s = finish s.stack s.out s.rest

  plain_shrinks : (ts : Toks) (x : List I × Toks) → Plain.reads ts ≡ Some x → length x.1 < length ts
  plain_shrinks = shrinks Plain (plain_laws ins heads li heeds) refl refl

  -- a whole group, and then k
  abbrev beside : I → List (List I) × Toks → Option ((I × List (List I)) × Toks)
  beside i x = Some ((i, x.0), x.1)

  abbrev with_operands : I × Toks → Option ((I × List (List I)) × Toks)
  with_operands i = operands i.1 >>= beside i.0

  abbrev keep : I × List (List I) → P × Toks → Option ((I × List (List I)) × Toks)
  keep a c = Some (a, c.1)

  abbrev fence_off : (I × List (List I)) × Toks → Option ((I × List (List I)) × Toks)
  fence_off a = closed a.1 >>= keep a.0

  abbrev in_order : (I × List (List I)) × Toks → Option (List I × Toks)
  in_order a = Some (plain_of ins heads a.0, a.1)

  module _ (k : Cont) (out : List I) where
    abbrev then_k : List I × Toks → Option (List I × Toks)
    then_k x = k (out ++ x.0) x.1

    close_part : (i : I) (x : List (List I)) (c : Option (P × Toks)) → (((c >>= keep (i, x)) >>= in_order) >>= then_k) ≡ (c >>= λ c. k ((out ++ all_of ins heads x) ++ i ∷ []) c.1)
    close_part i x None = refl
    close_part i x (Some c) = ap (λ z. k z c.1) (sym (append_assoc out (all_of ins heads x) (i ∷ [])))

    operands_part : (i : I) (q : Option (List (List I) × Toks)) → ((((q >>= beside i) >>= fence_off) >>= in_order) >>= then_k) ≡ (q >>= λ x. closed x.1 >>= λ c. k ((out ++ all_of ins heads x.0) ++ i ∷ []) c.1)
    operands_part i None = refl
    operands_part i (Some x) = close_part i x.0 (closed x.1)

    ins_part : (p : Option (I × Toks)) → ((((p >>= with_operands) >>= fence_off) >>= in_order) >>= then_k) ≡ (p >>= λ i. operands_then i.0 k out i.1)
    ins_part None = refl
    ins_part (Some i) = operands_part i.0 (operands i.1)

    open_part : (o : Option (P × Toks)) → (((o >>= λ o. (one o.1 >>= with_operands) >>= fence_off) >>= in_order) >>= then_k) ≡ (o >>= λ o. one o.1 >>= λ i. operands_then i.0 k out i.1)
    open_part None = refl
    open_part (Some o) = ins_part (one o.1)

    pub plain_then : (ts : Toks) → (Plain.reads ts >>= then_k) ≡ (one_of that_open ts >>= λ o. one o.1 >>= λ i. operands_then i.0 k out i.1)
    plain_then ts = ap (λ z. z >>= then_k) (fix_reads (group_tests heads) false (plain_step ins heads) (plain_steps ins heads li heeds) ts) ∙ open_part (one_of that_open ts)

  -- a turn leaves the outcome as it is
  more_part : (i : I) (st : List I) (out x : List I) (q : Option (List (List I) × Toks)) → (q >>= λ y. closed y.1 >>= λ c. finish st ((out ++ all_of ins heads (x ∷ y.0)) ++ i ∷ []) c.1) ≡ (q >>= λ y. closed y.1 >>= λ c. finish st (((out ++ x) ++ all_of ins heads y.0) ++ i ∷ []) c.1)
  more_part i st out x None = refl
  more_part i st out x (Some y) = ap (λ z. closed y.1 >>= λ c. finish st (z ++ i ∷ []) c.1) (sym (append_assoc out x (all_of ins heads y.0)))

  states_ins : (i : I) (st out : List I) (p : Option (I × Toks)) → (p >>= λ j. operands_then j.0 (finish (i ∷ st)) out j.1) ≡ ((p >>= λ j. Some (plain_state (j.0 ∷ i ∷ st) out j.1)) >>= outcome)
  states_ins i st out None = refl
  states_ins i st out (Some j) = refl

  states : (i : I) (st out : List I) (o : Option (P × Toks)) → (o >>= λ o. one o.1 >>= λ j. operands_then j.0 (finish (i ∷ st)) out j.1) ≡ ((o >>= λ o. one o.1 >>= λ j. Some (plain_state (j.0 ∷ i ∷ st) out j.1)) >>= outcome)
  states i st out None = refl
  states i st out (Some o) = states_ins i st out (one o.1)

  closes : (i : I) (st out : List I) (c : Option (P × Toks)) → (c >>= λ c. finish st ((out ++ []) ++ i ∷ []) c.1) ≡ ((c >>= λ c. Some (plain_state st (out ++ i ∷ []) c.1)) >>= outcome)
  closes i st out None = refl
  closes i st out (Some c) = ap (λ z. finish st (z ++ i ∷ []) c.1) (append-nil out)

  branch : (i : I) (st out : List I) (ts : Toks) (a : Option Bool) (p : Option (List I × Toks)) → Plain.reads ts ≡ p →
      (a >>= λ b. cond b (p >>= λ x. operands x.1 >>= λ y. closed y.1 >>= λ c. finish st ((out ++ all_of ins heads (x.0 ∷ y.0)) ++ i ∷ []) c.1) (cond (at (NotEnd ∷ []) ts) None (closed ts >>= λ c. finish st ((out ++ []) ++ i ∷ []) c.1)))
      ≡ ((a >>= λ b. cond b (one_of that_open ts >>= λ o. one o.1 >>= λ j. Some (plain_state (j.0 ∷ i ∷ st) out j.1)) (closed ts >>= λ c. Some (plain_state st (out ++ i ∷ []) c.1))) >>= outcome)
  branch i st out ts None p e = refl
  branch i st out ts (Some false) p e = no_close ts (λ c. finish st ((out ++ []) ++ i ∷ []) c.1) (at (NotEnd ∷ []) ts) refl ∙ closes i st out (closed ts)
  branch i st out ts (Some true) None e = ap (λ z. z >>= then_k (finish (i ∷ st)) out) (sym e) ∙ plain_then (finish (i ∷ st)) out ts ∙ states i st out (one_of that_open ts)
  branch i st out ts (Some true) (Some x) e = more_part i st out x.0 (operands x.1) ∙ ap (λ z. z >>= then_k (finish (i ∷ st)) out) (sym e) ∙ plain_then (finish (i ∷ st)) out ts ∙ states i st out (one_of that_open ts)

  turn_outcome : (i : I) (st out : List I) (ts : Toks) → finish (i ∷ st) out ts ≡ (next_turn (i ∷ st) out ts >>= outcome)
  turn_outcome i st out ts = row_turns (group_tests heads) Plain.reads plain_shrinks (λ y. closed y.1 >>= λ c. finish st ((out ++ all_of ins heads y.0) ++ i ∷ []) c.1) ts ∙ branch i st out ts (ask (group_tests heads) ts) (Plain.reads ts) refl

  -- RUNS
  pub step_outcome : (st out : List I) (ts : Toks) (t : PlainState N P I) → next_turn st out ts ≡ Some t → finish st out ts ≡ outcome t
  step_outcome [] out ts t e = cc
  step_outcome (i ∷ st) out ts t e = turn_outcome i st out ts ∙ ap (λ z. z >>= outcome) e

  pub stuck_outcome : (st out : List I) (ts : Toks) → (st ≡ [] → ⊥) → next_turn st out ts ≡ None → finish st out ts ≡ None
  stuck_outcome [] out ts n e = absurd (n refl)
  stuck_outcome (i ∷ st) out ts n e = turn_outcome i st out ts ∙ ap (λ z. z >>= outcome) e

  whole : (ts : Toks) → (Plain.reads ts >>= then_k (finish []) []) ≡ Plain.reads ts
  whole ts = same (Plain.reads ts)
    where
      same : (q : Option (List I × Toks)) → (q >>= then_k (finish []) []) ≡ q
      same None = refl
      same (Some x) = refl

  -- from the first parenthesis
  begun : (ts : Toks) → Plain.reads ts ≡ (open_next [] [] ts >>= outcome)
  begun ts = sym (whole ts) ∙ plain_then (finish []) [] ts ∙ opened (one_of that_open ts)
    where
      head_opened : (p : Option (I × Toks)) → (p >>= λ i. operands_then i.0 (finish []) [] i.1) ≡ ((p >>= λ i. Some (plain_state (i.0 ∷ []) [] i.1)) >>= outcome)
      head_opened None = refl
      head_opened (Some i) = refl

      opened : (o : Option (P × Toks)) → (o >>= λ o. one o.1 >>= λ i. operands_then i.0 (finish []) [] i.1) ≡ ((o >>= λ o. one o.1 >>= λ i. Some (plain_state (i.0 ∷ []) [] i.1)) >>= outcome)
      opened None = refl
      opened (Some o) = head_opened (one o.1)

  -- THE SAME WITH LEVELS AND HINTS
  abbrev pub embed : PlainState N P I → State N P I
  embed s = state (levels s.stack) (outs s.out) s.rest

  abbrev embedded : PlainState N P I → Option (State N P I)
  embedded s = Some (embed s)

  module _ (m : Made P I) where
    embed_ins : (st out : List I) (p : Option (I × Toks)) → (p >>= λ i. Some (state (EndWith None i.0 ∷ levels st) (outs out) i.1)) ≡ ((p >>= λ i. Some (plain_state (i.0 ∷ st) out i.1)) >>= embedded)
    embed_ins st out None = refl
    embed_ins st out (Some i) = refl

    embed_open : (st out : List I) (o : Option (P × Toks)) → (o >>= λ o. one o.1 >>= λ i. Some (state (EndWith None i.0 ∷ levels st) (outs out) i.1)) ≡ ((o >>= λ o. one o.1 >>= λ i. Some (plain_state (i.0 ∷ st) out i.1)) >>= embedded)
    embed_open st out None = refl
    embed_open st out (Some o) = embed_ins st out (one o.1)

    embed_close : (i : I) (st out : List I) (c : Option (P × Toks)) → (c >>= λ c. Some (state (levels st) (outs out ++ (None, i) ∷ []) c.1)) ≡ ((c >>= λ c. Some (plain_state st (out ++ i ∷ []) c.1)) >>= embedded)
    embed_close i st out None = refl
    embed_close i st out (Some c) = ap (λ z. Some (state (levels st) z c.1)) (sym (map-append (λ i. (None, i)) out (i ∷ [])))

    embed_either : (i : I) (st out : List I) (ts : Toks) (a : Option Bool) → (a >>= λ b. cond b (folded_head ins heads (EndWith None i ∷ levels st) (outs out) ts) (closed ts >>= λ c. Some (state (levels st) (outs out ++ (None, i) ∷ []) c.1))) ≡ ((a >>= λ b. cond b (open_next (i ∷ st) out ts) (close_next i st out ts)) >>= embedded)
    embed_either i st out ts None = refl
    embed_either i st out ts (Some true) = embed_open (i ∷ st) out (one_of that_open ts)
    embed_either i st out ts (Some false) = embed_close i st out (closed ts)

    embed_turn : (st out : List I) (ts : Toks) → plain_turn ins heads m (levels st) (outs out) ts ≡ (next_turn st out ts >>= embedded)
    embed_turn [] out ts = refl
    embed_turn (i ∷ st) out ts = embed_either i st out ts (ask (group_tests heads) ts)

    embedded_none : (o : Option (PlainState N P I)) → (o >>= embedded) ≡ None → o ≡ None
    embedded_none None e = refl
    embedded_none (Some s) e = cc

    embedded_some : (o : Option (PlainState N P I)) (t : State N P I) → (o >>= embedded) ≡ Some t → (s : PlainState N P I) × (o ≡ Some s) × (t ≡ embed s)
    embedded_some None t e = cc
    embedded_some (Some s) t e = (s, refl, sym (same_Some (embed s) t e))

    standing : (ts : Toks) (t : State N P I) (s : PlainState N P I) → t ≡ embed s → Plain.reads ts ≡ outcome s → Standing ins heads ts t
    standing ts t s e f = record { stack = s.stack; out = s.out; same = rw e refl; outcome_is = rw e f }

    pub stands_first : (ts : Toks) (t : State N P I) → folded_head ins heads [] [] ts ≡ Some t → Standing ins heads ts t
    stands_first ts t e =
        let s = embedded_some (open_next [] [] ts) t (sym (embed_open [] [] (one_of that_open ts)) ∙ e) in
        standing ts t s.0 s.2 (begun ts ∙ ap (λ z. z >>= outcome) s.1)

    pub stands_none : (ts : Toks) → folded_head ins heads [] [] ts ≡ None → Plain.reads ts ≡ None
    stands_none ts e = begun ts ∙ ap (λ z. z >>= outcome) (embedded_none (open_next [] [] ts) (sym (embed_open [] [] (one_of that_open ts)) ∙ e))

    turn_of : (ts : Toks) (s : State N P I) (h : Standing ins heads ts s) → plain_turn ins heads m s.stack s.out s.rest ≡ (next_turn h.stack h.out s.rest >>= embedded)
    turn_of ts s h = ap (λ z. plain_turn ins heads m z.stack z.out s.rest) h.same ∙ embed_turn h.stack h.out s.rest

    pub stands_next : (ts : Toks) (s t : State N P I) → Standing ins heads ts s → plain_turn ins heads m s.stack s.out s.rest ≡ Some t → Standing ins heads ts t
    stands_next ts s t h e =
        let k = embedded_some (next_turn h.stack h.out s.rest) t (sym (turn_of ts s h) ∙ e) in
        standing ts t k.0 k.2 (h.outcome_is ∙ step_outcome h.stack h.out s.rest k.0 k.1)

    pub stands_stuck : (ts : Toks) (s : State N P I) → Standing ins heads ts s → (s.stack ≡ [] → ⊥) → plain_turn ins heads m s.stack s.out s.rest ≡ None → Plain.reads ts ≡ None
    stands_stuck ts s h n e = h.outcome_is ∙ stuck_outcome h.stack h.out s.rest (λ d. n (ap (λ z. z.stack) h.same ∙ ap levels d)) (embedded_none (next_turn h.stack h.out s.rest) (sym (turn_of ts s h) ∙ e))

    no_levels : (st : List I) → levels st ≡ [] → st ≡ []
    no_levels [] e = refl
    no_levels (i ∷ st) e = cc

    no_hints : (n : ℕ) (out : List I) → hints_from n (outs out) ≡ []
    no_hints n [] = refl
    no_hints n (i ∷ out) = no_hints (suc n) out

    same_instrs : (out : List I) → map (λ x. x.1) (outs out) ≡ out
    same_instrs [] = refl
    same_instrs (i ∷ out) = ap (λ z. i ∷ z) (same_instrs out)

    pub stands_last : (ts : Toks) (s : State N P I) → Standing ins heads ts s → s.stack ≡ [] → (seen (without_hints ins heads) Plain).reads ts ≡ Some (expression_of s.out, s.rest)
    stands_last ts s h e =
        let none = no_levels h.stack (sym (ap (λ z. z.stack) h.same) ∙ e) in
        let q : Plain.reads ts ≡ Some (h.out, s.rest) = h.outcome_is ∙ ap (λ st. finish st h.out s.rest) none in
        ap (λ z. z >>= λ x. Some (without_hints ins heads x.0, x.1)) q
        ∙ ap (λ z. Some (z, s.rest)) (sym (ap (λ z. expression_of z.out) h.same ∙ ap (λ z. record { instrs = z; hints = hints_from 0 (outs h.out) }) (same_instrs h.out) ∙ ap (λ z. record { instrs = h.out; hints = z }) (no_hints 0 h.out)))
